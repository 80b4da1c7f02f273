-- Each change of a run leaves entries that are right, and each `accepted` is followed by its mark.
use Rattle.std.proofs.Common.{◌≡◌, ℕ, ◌+◌, List, [], ◌∷◌, ◌++◌, true, false, length, refl, sym, ap, ◌∙◌, subst}
use Rattle.std.specs.Prelude.{fold, Option, Some, None, option_map, slice_get}
use Rattle.std.specs.List.{AllByRecursion}
use Rattle.std.proofs.lemmas.List.{append_assoc}
use Rattle.std.proofs.lemmas.List.Sums.{fold-append}
use Rattle.std.proofs.lemmas.Option.{slice_get-map}
use Rattle.mip_words.specs.declared.address.Address.{Address}
use Rattle.mip_words.specs.declared.shield.Shield.{Shield}
use Rattle.mip_nonce.specs.Secrets.{Life}
use Rattle.mip_words.specs.EachAfter.{EachAfter}
use Rattle.mip_words.proofs.EachLaws.{each-append}
use Rattle.mip_packets.specs.Says.{carried}
use Rattle.mip_packets.proofs.Sayings.{carried_lowered}
use Rattle.mip_entries.specs.declared.entry.Entry.{Entry}
use Rattle.mip_entries.specs.declared.entry.Entry.TheVariants as entries
use Rattle.mip_entries.specs.Completed.{node_id}
use Rattle.mip_provenance.specs.Sights.{token_in}
use Rattle.mip_schedule.specs.declared.event.Event.{Event}
use Rattle.mip_links.specs.Table.{Post, holder_outside}
use Rattle.mip_history.specs.Setup.{Setup, Host, Kind, is_mobile_host}
use Rattle.mip_history.specs.Setup.Kind.{Correspondent, Agent, Mobile}
use Rattle.mip_history.specs.Runs.{Run, note, without, with_past, with_agent_past}
use Rattle.mip_history.specs.Questions.{restarts, life_in}
use Rattle.mip_history.specs.Calls as calls
use Rattle.mip_history.specs.Calls.{Call, Take, Restart}
use Rattle.mip_history.specs.Knowing.{secrets_in}
use Rattle.mip_history.specs.Nodes.{by_host, acts}
use Rattle.mip_history.specs.Delivery.{handed_over}
use Rattle.mip_history.specs.Permitted.{happens}
use Rattle.mip_history.proofs.PartTransitions.{mobile_apart}
use Rattle.mip_history.proofs.Keeping.{IsHanded}
use Rattle.mip_history.proofs.Changes.{IsLeft, IsBy, Change, left, comes, injects, drops, squats, yields, acted, moved, reborn, gives, renewed, schedule_keeps}
use Rattle.mip_history.proofs.Folds.{emptied_keeps}
use Rattle.mip_law_origin.specs.MarkedLaws.{EachIsFollowed}
use Rattle.mip_law_origin.specs.OwnHistories.{life_of}
use Rattle.mip_law_origin.specs.OwnHistoriesLaws.{IsOwnEntry, IsPlainEvent}
use Rattle.mip_law_origin.proofs.Following.{is_busy, followed-append}
use Rattle.mip_law_origin.proofs.Adding.{IsGood, HaveSecrets, secrets_stay, Adds, adds_same, adds_then, adds_one, good_notes}
use Rattle.mip_law_origin.proofs.Posting.{adds_entered, adds_claims, adds_gives_up}
use Rattle.mip_law_origin.proofs.Acting.{HasTold, lives_apart, restart_adds, restart_secrets, adds_acts}

left_idle : (s : Setup) (event : Event) (run : Run) (e : Entry) → IsLeft s event run e → is_busy e ≡ false
left_idle s event run entries.Idle is = refl
left_idle s event run (entries.Heard k o) is = refl
left_idle s event run (entries.Handed k node) is = refl
left_idle s event run (entries.Gone k why) is = refl
left_idle s event run (entries.Lost k) is = refl
left_idle s event run (entries.Listening o link) is = refl
left_idle s event run (entries.Deafened o link) is = refl
left_idle s event run (entries.Settled a b value) is = refl
left_idle s event run (entries.Advertised node link router) is = refl
left_idle s event run (entries.Row node home number careof sequence end kept) is = refl
left_idle s event run _ is = absurd is

-- a packet says the same as it is handed over
handed_says : (packet : List ℕ) (link : Option ℕ) → carried (handed_over packet link) ≡ carried packet
handed_says packet None = refl
handed_says packet (Some link) = carried_lowered packet

-- a node that was handed a packet just now has its test
told : (run : Run) (n k : ℕ) (shield : Option Shield) (packet : List ℕ) → IsGood run → IsHanded run n k shield packet → HasTold run.past n (Take k shield packet)
told run n k shield packet good is = λ t says. record {
  number = k;
  bytes = is.post.packet;
  before = is.earlier;
  after = [];
  whole = is.told;
  posted =
      ap (λ (l : List (List ℕ)). slice_get l k) good.packets
      ∙ slice_get-map (λ (p : Post). p.packet) run.posts k
      ∙ ap (λ (o : Option Post). option_map (λ (p : Post). p.packet) o) is.posted;
  says = ap token_in (sym (ap carried is.as_posted ∙ handed_says is.post.packet is.link)) ∙ says;
}

-- lives as time goes on
at_lives : (s : Setup) (run : Run) (moment n : ℕ) → life_of s (run.past ++ entries.At (record { 0 = moment }) ∷ []) n ≡ life_of s run.past n
at_lives s run moment n =
    ap (λ (l : ℕ). let x : Life = record { seed = s.seed; node = n; life = l } in x) (fold-append (restarts n) 0 run.past (entries.At (record { 0 = moment }) ∷ []))

module _ (s : Setup) (Q : Type 0) where
  -- a run goes on by entries that are right, if Q holds
  pub record Goes (a b : Run) : Type 0 where
    pub es : List Entry
    pub whole : b.past ≡ a.past ++ es
    pub own : Q → HaveSecrets s a → EachAfter (IsOwnEntry s) a.past es
    pub secrets : HaveSecrets s a → HaveSecrets s b
    pub followed : EachIsFollowed a.past es
    pub good : IsGood b

  pub goes_adds : (a b : Run) → Adds s Q a b → Goes a b
  goes_adds a b adds = record { es = adds.es; whole = adds.whole; own = adds.own; secrets = adds.secrets; followed = adds.followed; good = adds.good }

  pub goes_same : (a b : Run) → b.past ≡ a.past → b.mobile_pasts ≡ a.mobile_pasts → IsGood b → Goes a b
  goes_same a b e same good = goes_adds a b (adds_same s Q a b e same good)

  pub goes_then : (a b c : Run) → Goes a b → Goes b c → Goes a c
  goes_then a b c p q = record {
    es = p.es ++ q.es;
    whole = q.whole ∙ ap (λ (l : List Entry). l ++ q.es) p.whole ∙ append_assoc a.past p.es q.es;
    own = λ x h. each-append (IsOwnEntry s) a.past p.es q.es (p.own x h) (subst (λ (l : List Entry). EachAfter (IsOwnEntry s) l q.es) p.whole (q.own x (p.secrets h)));
    secrets = λ h. q.secrets (p.secrets h);
    followed = followed-append a.past p.es q.es p.followed (subst (λ (l : List Entry). EachIsFollowed l q.es) p.whole q.followed);
    good = q.good;
  }

  -- time goes on
  goes_at : (moment : ℕ) (run : Run) → IsGood run → Goes run (note (entries.At (record { 0 = moment })) run)
  goes_at moment run good =
      record {
        es = entries.At (record { 0 = moment }) ∷ [];
        whole = refl;
        own = λ q h. (tt, tt);
        secrets = secrets_stay s run (note (entries.At (record { 0 = moment })) run) refl (λ n. at_lives s run moment n);
        followed = (tt, tt);
        good = good_notes (entries.At (record { 0 = moment }) ∷ []) run refl good;
      }

  -- a node begins anew that is no mobile
  goes_born : (n : ℕ) (run next : Run) → is_mobile_host (slice_get s.hosts n) ≡ false → next.past ≡ run.past → next.mobile_pasts ≡ run.mobile_pasts → IsGood next
      → Goes run (note (entries.Restarted (node_id n)) next)
  goes_born n run next unmoved same pasts good =
      goes_then run next _ (goes_same run next same pasts good) (record {
        es = entries.Restarted (node_id n) ∷ [];
        whole = refl;
        own = λ q h. (tt, tt);
        secrets = λ have. (have.0, λ m home agent host. have.1 m home agent host ∙ sym (lives_apart s next n m (mobile_apart s n unmoved m home agent host)));
        followed = (tt, tt);
        good = good_notes (entries.Restarted (node_id n) ∷ []) next refl good;
      })

  -- a mobile begins anew
  goes_renewed : (n : ℕ) (run : Run) (secrets : Life) → secrets ≡ secrets_in s n (life_in (run.past ++ entries.Restarted (node_id n) ∷ []) n) → IsGood run
      → (o : Option Host) → slice_get s.hosts n ≡ o → is_mobile_host o ≡ true → Goes run (by_host s n (Restart secrets) (note (entries.Restarted (node_id n)) run) o)
  goes_renewed n run secrets so good None is mobile = absurd cc
  goes_renewed n run secrets so good (Some host) is mobile = of_kind host.address host.kind is mobile
    where
      all_good : IsGood (note (entries.Restarted (node_id n)) run)
      all_good = good_notes (entries.Restarted (node_id n) ∷ []) run refl good

      of_kind : (own : Address) (kind : Kind) → slice_get s.hosts n ≡ Some (record { address = own; kind = kind }) → is_mobile_host (Some (record { address = own; kind = kind })) ≡ true
          → Goes run (by_host s n (Restart secrets) (note (entries.Restarted (node_id n)) run) (Some (record { address = own; kind = kind })))
      of_kind own (Correspondent room) is mobile = absurd cc
      of_kind own (Agent preference life room serves) is mobile = absurd cc
      of_kind own (Mobile agent) is mobile =
          subst (λ (life : Life). Goes run (by_host s n (Restart life) (note (entries.Restarted (node_id n)) run) (Some (record { address = own; kind = Mobile agent })))) (sym so)
          (let a = restart_adds s n own agent is Q run all_good in record {
            es = entries.Restarted (node_id n) ∷ a.es;
            whole = a.whole ∙ append_assoc run.past (entries.Restarted (node_id n) ∷ []) a.es;
            own = λ q have. (tt, a.own (q, have) (restart_secrets s n own agent is Q run all_good have));
            secrets = λ have. a.secrets (restart_secrets s n own agent is Q run all_good have);
            followed = (tt, a.followed);
            good = a.good;
          })

  -- a call, and each change
  called : (event : Event) → (Q → IsPlainEvent event) → (run : Run) (n : ℕ) (call : Call) → IsBy s event run n call → IsGood run → Adds s Q run (acts s n call run)
  called event plain run n (Take k shield packet) is good = adds_acts s Q n run good (Take k shield packet) refl (λ q. tt) (told run n k shield packet good is.1)
  called event plain run n (calls.Send to proto payload) is good = adds_acts s Q n run good (calls.Send to proto payload) refl (λ q. subst IsPlainEvent is (plain q)) tt
  called event plain run n (Restart secrets) is good = absurd is
  called event plain run n call is good = adds_acts s Q n run good call refl (λ q. tt) tt

  goes_change : (event : Event) → (Q → IsPlainEvent event) → (a b : Run) → Change s event a b → IsGood a → Goes a b
  goes_change event plain _ _ (left run e is) good = goes_adds run _ (adds_one s Q e run (left_idle s event run e is) good)
  goes_change event plain _ _ (comes run m wait early) good = goes_at m run good
  goes_change event plain _ _ (injects run o link packet is) good =
      goes_adds run _ (adds_entered s Q (record { from = link.0; shield = None; packet = packet }) (entries.Injected (length run.posts) o link packet) run good refl (λ q. tt) refl refl)
  goes_change event plain _ _ (drops run k) good = goes_same run (without k run) refl refl (record { packets = good.packets; mobiles = good.mobiles })
  goes_change event plain _ _ (squats run o address so) good = goes_adds run _ (adds_claims s Q (holder_outside o) address run good)
  goes_change event plain _ _ (yields run o address so) good = goes_adds run _ (adds_gives_up s Q (holder_outside o) address run good)
  goes_change event plain _ _ (acted run n call is) good = goes_adds run _ (called event plain run n call is good)
  goes_change event plain _ _ (moved run node link so is) good =
      let one : Adds s Q run (acts s node.0 calls.Leave run) = adds_acts s Q node.0 run good calls.Leave refl (λ q. tt) tt in
      goes_adds run _ (adds_then s Q run (acts s node.0 calls.Leave run) _ one (adds_one s Q (entries.Moved node link) (acts s node.0 calls.Leave run) refl one.good))
  goes_change event plain _ _ (reborn run node so is) good =
      emptied_keeps s node.0 run (λ (next : Run). Goes run (note (entries.Restarted node) next)) (goes_born node.0 run run is refl refl good)
      (goes_born node.0 run (with_past node.0 [] run) is refl refl (record { packets = good.packets; mobiles = good.mobiles }))
      (goes_born node.0 run (with_agent_past node.0 [] run) is refl refl (record { packets = good.packets; mobiles = good.mobiles }))
  goes_change event plain _ _ (gives run node address so within) good = goes_adds run _ (adds_gives_up s Q node.0 address run good)
  goes_change event plain _ _ (renewed run node secrets so is life) good = goes_renewed node.0 run secrets life good (slice_get s.hosts node.0) refl is

  -- each entry so far is right, and each `accepted` is followed by its mark
  pub record IsOwnRun (run : Run) : Type 0 where
    pub own : Q → EachAfter (IsOwnEntry s) [] run.past
    pub secrets : HaveSecrets s run
    pub followed : EachIsFollowed [] run.past
    pub good : IsGood run

  own_goes : (a b : Run) → IsOwnRun a → Goes a b → IsOwnRun b
  own_goes a b is goes = record {
    own = λ q. subst (λ (l : List Entry). EachAfter (IsOwnEntry s) [] l) (sym goes.whole) (each-append (IsOwnEntry s) [] a.past goes.es (is.own q) (goes.own q is.secrets));
    secrets = goes.secrets is.secrets;
    followed = subst (λ (l : List Entry). EachIsFollowed [] l) (sym goes.whole) (followed-append [] a.past goes.es is.followed goes.followed);
    good = goes.good;
  }

  pub own_all : (run : Run) (events : List Event) → AllByRecursion (λ event. Q → IsPlainEvent event) events → IsOwnRun run → IsOwnRun (fold (λ run event. happens s run event) run events)
  own_all run events plain is =
      schedule_keeps s IsOwnRun (λ event. Q → IsPlainEvent event) (λ event plain a b change is. own_goes a b is (goes_change event plain a b change is.good)) run events plain is
