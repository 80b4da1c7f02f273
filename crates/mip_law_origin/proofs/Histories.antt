-- Each entry in the history of a run is right, and each `accepted` is followed by its mark.
use Rattle.std.proofs.Common.{◌≡◌, ℕ, zero, suc, List, [], ◌∷◌, false, refl, sym, ap, ◌∙◌}
use Rattle.std.specs.Prelude.{fold, map, slice_index_or}
use Rattle.std.specs.List.{list_any, AllByRecursion}
use Rattle.std.proofs.lemmas.List.{length-map}
use Rattle.mip_words.specs.EachAfter.{EachAfter}
use Rattle.mip_words.specs.declared.address.Address.{Address}
use Rattle.mip_entries.specs.declared.entry.Entry.{Entry}
use Rattle.mip_entries.specs.Stamped.{Stamped}
use Rattle.mip_rules_mobile.specs.Steps as mobiles
use Rattle.mip_rules_mobile.specs.PartLaws.{PartLife, part_life}
use Rattle.mip_schedule.specs.Contents.{Content}
use Rattle.mip_schedule.specs.declared.event.Event.{Event}
use Rattle.mip_history.specs.Setup.{Setup, Host, setup_of}
use Rattle.mip_history.specs.Runs.{Run}
use Rattle.mip_history.specs.Knowing.{secrets_in}
use Rattle.mip_history.specs.KnowingLaws.{part_in}
use Rattle.mip_history.specs.Permitted.{opening_claims, opened, happens, permitted}
use Rattle.mip_history.proofs.Opening.{no_mobile_past, claims_none}
use Rattle.mip_law_origin.specs.MarkedLaws.{EachIsFollowed}
use Rattle.mip_law_origin.specs.OwnHistories.{life_of}
use Rattle.mip_law_origin.specs.OwnHistoriesLaws.{IsOwnEntry, IsPlainEvent, ArePlain}
use Rattle.mip_law_origin.proofs.Coming.{AreGiven}
use Rattle.mip_law_origin.proofs.Following.{is_busy, followed_idle}
use Rattle.mip_law_origin.proofs.Adding.{all_untimed, no_packets, each_idle, HaveSecrets, untimed_life}
use Rattle.mip_law_origin.proofs.OwnChanges.{IsOwnRun, own_all}

all_if : (Q : Type 0) (F : Event → Type 0) (events : List Event) → (Q → AllByRecursion F events) → AllByRecursion (λ event. Q → F event) events
all_if Q F [] all = tt
all_if Q F (event ∷ events) all = (λ q. (all q).0, all_if Q F events (λ q. (all q).1))

-- before the first event
none_given : (front : List Entry) (m : ℕ) (hosts : List Host) (n : ℕ) → AreGiven front m (slice_index_or (map (λ (host : Host). []) hosts) n [])
none_given front m [] n = tt
none_given front m (h ∷ hosts) zero = tt
none_given front m (h ∷ hosts) (suc n) = none_given front m hosts n

-- the secrets of the first lives, which the opening claims leave as they are
first_secrets : (s : Setup) → HaveSecrets s (opened s)
unfolding part_life
first_secrets s = (
  length-map s.hosts (λ (host : Host). let l : List (Stamped mobiles.Step) = [] in l),
  λ n home agent host. first n home,
)
  where
    quiet : list_any is_busy (opening_claims s) ≡ false
    quiet = claims_none is_busy (λ who link address. refl) s.links [] s.hosts

    first : (n : ℕ) (home : Address) → (part_in s (opened s) n home).secrets ≡ life_of s (opened s).past n
    first n home =
        ap (λ (l : List (Stamped mobiles.Step)). let p : PartLife = part_life home s.numbers (secrets_in s n 0) l in p.secrets) (no_mobile_past s.hosts n)
        ∙ sym (untimed_life s [] (opening_claims s) n (all_untimed (opening_claims s) quiet))

-- the whole history of a schedule
run_is_own : (c : Content) → IsOwnRun (setup_of c) (ArePlain c) (let r : Run = fold (λ run event. happens (setup_of c) run event) (opened (setup_of c)) c.events in r)
run_is_own c =
    let s = setup_of c in
    let quiet : list_any is_busy (opening_claims s) ≡ false = claims_none is_busy (λ who link address. refl) s.links [] s.hosts in
    own_all s (ArePlain c) (opened s) c.events (all_if (ArePlain c) IsPlainEvent c.events (λ q. q))
    (record {
      own = λ q. each_idle s [] (opening_claims s) quiet;
      secrets = first_secrets s;
      followed = followed_idle [] (opening_claims s) quiet;
      good = record { packets = no_packets (opening_claims s) quiet; mobiles = λ n. none_given (opening_claims s) n s.hosts n };
    })

pub own_permitted : (c : Content) → ArePlain c → EachAfter (IsOwnEntry (setup_of c)) [] (permitted c)
unfolding permitted
own_permitted c plain = (run_is_own c).own plain

pub followed_permitted : (c : Content) → EachIsFollowed [] (permitted c)
unfolding permitted
followed_permitted c = (run_is_own c).followed
