-- What steady steps keep, trials keep: starting, asking again, making updates.
use Rattle.std.proofs.Common.{◌≡◌, ℕ, zero, suc, ◌+◌, ◌<◌, refl, arith}
use Rattle.std.specs.Prelude.{◌*◌, min, Option, Some, None, Bool, true, false, ◌==◌, if◌then◌else◌, Result, Ok, Err}
use Rattle.std.proofs.Math.Nat.{le-max_left}
use Rattle.mip_words.specs.declared.address.Address.{Address}
use Rattle.mip_words.specs.declared.token.Cookie.{Cookie}
use Rattle.mip_bulist.specs.declared.aim.Aim.TheVariants.{Bind, Delete}
use Rattle.mip_bulist.specs.declared.any.Any.{Any}
use Rattle.mip_bulist.specs.declared.any.Any.TheVariants.{Probing, Proved, Pending}
use Rattle.mip_bulist.specs.declared.made.Made.{Made}
use Rattle.mip_bulist.specs.declared.refused.Refused.{Refused}
use Rattle.mip_bulist.specs.declared.refused.Refused.TheVariants as refused
use Rattle.mip_bulist.specs.declared.state.Probing as probing
use Rattle.mip_bulist.specs.declared.trial.Trial.{Trial}
use Rattle.mip_bulist.specs.declared.work.Work.TheVariants.{Resend}
use Rattle.mip_rules_correspondent.specs.declared.identity.Identity.{Identity}
use Rattle.mip_rules_mobile.specs.declared.attachment.Attachment.{Attachment}
use Rattle.mip_rules_mobile.specs.declared.attachment.Attachment.TheVariants.{Detached, AtHome, Away}
use Rattle.mip_words.specs.Constants.{max_bindack_timeout}
use Rattle.mip_rules_mobile.specs.Timing.{doubled}
use Rattle.mip_rules_mobile.specs.Calls.{Call}
use Rattle.mip_rules_mobile.specs.Trials.{Start, Rest, makes, lacks_home, lacks_careof}
use Rattle.mip_rules_mobile.specs.Sendings.{PeerUpdate, AsksHome, AsksCareof}
use Rattle.mip_rules_mobile.specs.Steps.{Step, Sends, Tries, Updates, Waits}
use Rattle.mip_rules_mobile.specs.HomeQuestions.{home_of, binding_number_of}
use Rattle.mip_rules_mobile.specs.RowQuestions.{first_cookie, second_cookie, peer_of_row, trial_of, wait_of_row}
use Rattle.mip_rules_mobile.specs.Transitions.{Transition, noted}
use Rattle.mip_rules_mobile.specs.OutRules.{goes_out}
use Rattle.mip_rules_mobile.specs.TrialRules.{each_from, each_row, starts_with, starts_at, starts, source_for, sends_update, makes_with, makes_at, updates, asks_home, asks_careof, asks_again, goes_on, resends_at, resends_row}
use Rattle.mip_rules_mobile.proofs.Steady.{Goes, Stays, stays-noted, staying, stays-here}
use Rattle.mip_rules_mobile.proofs.OutWalks.{every-goes_out, out-stays}

-- a rule for each row keeps what the rule keeps
pub every-from : (P : Transition → Type 0) (rule : ℕ → Transition → Transition) → ((row : ℕ) (t : Transition) → P t → P (rule row t)) → (left row : ℕ) (t : Transition) → P t → P (each_from rule left row t)
every-from P rule keeps zero row t p = p
every-from P rule keeps (suc left) row t p = every-from P rule keeps left (row + 1) (rule row t) (keeps row t p)

pub every-row : (P : Transition → Type 0) (rule : ℕ → Transition → Transition) → ((row : ℕ) (t : Transition) → P t → P (rule row t)) → (t : Transition) → P t → P (each_row rule t)
every-row P rule keeps t p = every-from P rule keeps 16 0 t p

module _ (c : Call) (P : Transition → Type 0) (more : Goes c P) where
  pub every-starts : (row : ℕ) (t : Transition) → P t → P (starts row t)
  unfolding starts
  every-starts row t p = by (peer_of_row t.known row)
    where
      home : Cookie
      home = first_cookie t.known

      other : Cookie
      other = second_cookie t.known

      from : (peer : Address) (s : Attachment) → t.known.standing ≡ s → P (starts_with s row peer t)
      from peer Detached here = p
      from peer AtHome here =
          let first = noted (Tries row (Start Delete home home)) t in
          more (Waits (Resend row) 1000) (goes_out (AsksHome peer home.0) first) refl (omega arith, refl)
          (every-goes_out c P more (AsksHome peer home.0) first tt (more (Tries row (Start Delete home home)) t refl tt p))
      from peer (Away careof) here =
          let start : Step = Tries row (Start (Bind careof) home other) in
          let first = noted start t in
          let second = goes_out (AsksHome peer home.0) first in
          let q = every-goes_out c P more (AsksHome peer home.0) first tt (more start t refl tt p) in
          let s = out-stays c t.known.standing t.known.part.identity t.now (AsksHome peer home.0) first tt
          (stays-noted t.known.standing t.known.part.identity t.now start t refl (stays-here t)) in
          more (Waits (Resend row) 1000) (noted (Sends (AsksCareof careof peer other.0)) second) refl (omega arith, refl)
          (more (Sends (AsksCareof careof peer other.0)) second refl (let both : second.known.standing ≡ Away careof = cc (s.standing, here) in both) q)

      by : (peer : Option Address) → P (starts_at peer row t)
      by None = p
      by (Some peer) = from peer t.known.standing refl

-- a time of resending is a time
pub doubled-positive : (wait : ℕ) → 0 < doubled wait
doubled-positive wait = omega (arith, le-max_left 1000 (min (2 * wait) 32000))

module _ (c : Call) (P : Transition → Type 0) (more : Goes c P) where
  sends : (source : Option Address) (row : ℕ) (peer : Address) (made : Made) (wait : ℕ) (t : Transition) → 0 < wait
      → peer_of_row t.known row ≡ Some peer → makes (record { 0 = t.now }) (trial_of t.known row) ≡ Some (Ok made)
      → source_for t.known.standing (home_of t.known) made ≡ source → P t → P (sends_update source row peer made wait t)
  sends None row peer made wait t positive of_row of_trial from p = p
  sends (Some source) row peer made wait t positive of_row of_trial from p =
      let u : PeerUpdate = record { home = home_of t.known; source = source; peer = peer; number = binding_number_of t.known; made = made } in
      more (Waits (Resend row) wait) (noted (Updates row u) t) refl (positive, refl)
      (more (Updates row u) t refl (record { home = refl; peer = of_row; number = refl; made = of_trial; source = from }) p)

  pub every-updates : (row wait : ℕ) (t : Transition) → 0 < wait → P t → P (updates row wait t)
  unfolding updates
  every-updates row wait t positive p = by (peer_of_row t.known row) refl
    where
      of : (peer : Address) → peer_of_row t.known row ≡ Some peer → (o : Option (Result Made Refused)) → makes (record { 0 = t.now }) (trial_of t.known row) ≡ o → P (makes_with o row peer wait t)
      of peer is None made = p
      of peer is (Some (Ok made)) is_made = sends (source_for t.known.standing (home_of t.known) made) row peer made wait t positive is is_made refl p
      of peer is (Some (Err refused.Old)) made = every-starts c P more row t p
      of peer is (Some (Err refused.TooSoon)) made = more (Waits (Resend row) wait) t refl (positive, refl) p
      of peer is (Some (Err refused.Cookie)) made = p
      of peer is (Some (Err refused.NotMine)) made = p

      by : (peer : Option Address) → peer_of_row t.known row ≡ peer → P (makes_at peer row wait t)
      by None is = p
      by (Some peer) is = of peer is (makes (record { 0 = t.now }) (trial_of t.known row)) refl

  asking_home : (lacks : Bool) (peer : Address) (cookie : ℕ) (t : Transition) → P t → P (asks_home lacks peer cookie t)
  asking_home true peer cookie t p = every-goes_out c P more (AsksHome peer cookie) t tt p
  asking_home false peer cookie t p = p

  asking_careof : (lacks : Bool) (s : Attachment) (peer : Address) (cookie : ℕ) (t : Transition) → t.known.standing ≡ s → P t → P (asks_careof lacks s peer cookie t)
  asking_careof lacks Detached peer cookie t here p = p
  asking_careof lacks AtHome peer cookie t here p = p
  asking_careof true (Away careof) peer cookie t here p = more (Sends (AsksCareof careof peer cookie)) t refl here p
  asking_careof false (Away careof) peer cookie t here p = p

-- asking for a Home Test moves nothing
asking-stays : (c : Call) (s : Attachment) (me : Identity) (now : ℕ) (lacks : Bool) (peer : Address) (cookie : ℕ) (t : Transition) → Stays s me now t → Stays s me now (asks_home lacks peer cookie t)
asking-stays c s me now lacks peer cookie t stays = asking_home c (Stays s me now) (staying c s me now) lacks peer cookie t stays

module _ (c : Call) (P : Transition → Type 0) (more : Goes c P) where
  every-asks_again : (row : ℕ) (peer : Address) (u : Trial probing.Probing) (t : Transition) → P t → P (asks_again row peer u t)
  unfolding asks_again
  every-asks_again row peer u t p =
      let s = asking-stays c t.known.standing t.known.part.identity t.now (lacks_home u) peer u.state.home_cookie.0 t (stays-here t) in
      asking_careof c P more (lacks_careof u) t.known.standing peer u.state.careof_cookie.0 (asks_home (lacks_home u) peer u.state.home_cookie.0 t) s.standing
      (asking_home c P more (lacks_home u) peer u.state.home_cookie.0 t p)

  going_on : (o : Option Any) (row : ℕ) (peer : Address) (wait : ℕ) (t : Transition) → 0 < wait → P t → P (goes_on o row peer wait t)
  going_on (Some (Probing u)) row peer wait t positive p =
      more (Waits (Resend row) wait) (asks_again row peer u t) refl (positive, refl) (every-asks_again row peer u t p)
  going_on (Some (Proved u)) row peer wait t positive p = every-updates c P more row wait t positive p
  going_on (Some (Pending u)) row peer wait t positive p = every-updates c P more row wait t positive p
  going_on _ row peer wait t positive p = p

  pub every-resends_row : (row : ℕ) (t : Transition) → P t → P (resends_row row t)
  unfolding resends_row
  every-resends_row row t p = by (peer_of_row t.known row)
    where
      last : (peer : Address) (wait : ℕ) (over : Bool)
          → P (if over then noted (Tries row Rest) t else goes_on (trial_of t.known row) row peer (doubled wait) t)
      last peer wait true = more (Tries row Rest) t refl tt p
      last peer wait false = going_on (trial_of t.known row) row peer (doubled wait) t (doubled-positive wait) p

      by : (peer : Option Address) → P (resends_at peer row (wait_of_row t.known row) t)
      by None = p
      by (Some peer) = last peer (wait_of_row t.known row) (wait_of_row t.known row == max_bindack_timeout)
