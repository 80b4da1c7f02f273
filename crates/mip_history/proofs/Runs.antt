-- What every run keeps: moments do not fall, every acceptance has its update, and the past of each correspondent, and of each
-- mobile's correspondent part, holds what the history has of it.
use Rattle.std.proofs.Common.{◌≡◌, ℕ, ◌≤◌, List, [], ◌∷◌, ◌++◌, Bool, true, false, length, refl, sym, ap, ◌∙◌, subst}
use Rattle.std.specs.Prelude.{slice_get, slice_index_or, Option, Some, ◌||◌}
use Rattle.std.proofs.lemmas.Bool.{or_parts}
use Rattle.std.specs.List.{list_any, AllByRecursion}
use Rattle.mip_words.specs.declared.address.Address.{Address}
use Rattle.mip_words.specs.EachAfter.{EachAfter}
use Rattle.mip_words.proofs.EachLaws.{each-append}
use Rattle.mip_entries.specs.declared.entry.Entry.{Entry}
use Rattle.mip_entries.specs.declared.entry.Entry.TheVariants as entries
use Rattle.mip_entries.specs.Stamped.{Stamped}
use Rattle.mip_rules_correspondent.specs.Steps.{Step}
use Rattle.mip_entries.specs.Pasts.{RisesFrom}
use Rattle.mip_rules_correspondent.specs.Pasts.{accepted_in}
use Rattle.mip_rules_mobile.specs.Steps as mobile_steps
use Rattle.mip_rules_mobile.specs.PartLaws.{PartLife, part_life}
use Rattle.mip_links.specs.Table.{Post}
use Rattle.mip_history.specs.Setup.{Setup}
use Rattle.mip_history.specs.SetupLaws.{is_correspondent_at}
use Rattle.mip_history.specs.Setup.Kind.{Mobile}
use Rattle.mip_history.specs.Runs.{Run, note, notes, entered, past_at}
use Rattle.mip_history.specs.Questions.{moment_in, life_in}
use Rattle.mip_history.specs.Knowing.{secrets_in}
use Rattle.mip_history.specs.KnowingLaws.{part_in}
use Rattle.mip_history.specs.Claims.{claims}
use Rattle.mip_history.specs.Homes.{gives_up}
use Rattle.mip_history.specs.Posting.{posted}
use Rattle.mip_history.specs.Bound.{accepted_by, HasAccepted}
pub use Rattle.mip_history.specs.RunsLaws.{Meets, IsPast, IsPart, IsRun}
use Rattle.mip_history.proofs.Quiet.{is_told, same_accepted, same_moment, same_life}
use Rattle.mip_history.proofs.Keeping.{is_busy, keeps_overheard, keeps_claims, keeps_gives_up}

-- in a history of the same moment and acceptances the same stands
pub past_stays : (s : Setup) (before after : List Entry) (steps : List (Stamped Step)) (n : ℕ) → accepted_by s.start after n ≡ accepted_by s.start before n → moment_in s.start after ≡ moment_in s.start before
    → IsPast s before steps n → IsPast s after steps n
past_stays s before after steps n accepted moment p = record {
  accepted = p.accepted ∙ sym accepted;
  rises = p.rises;
  early = subst (λ (m : ℕ). AllByRecursion (λ t. t.at ≤ m) steps) (sym moment) p.early;
}

pub part_stays : (s : Setup) (before after : List Entry) (life : PartLife) (n : ℕ) → accepted_by s.start after n ≡ accepted_by s.start before n → moment_in s.start after ≡ moment_in s.start before
    → life_in after n ≡ life_in before n → IsPart s before life n → IsPart s after life n
part_stays s before after life n accepted moment lives p = record {
  secrets = p.secrets ∙ ap (λ (l : ℕ). secrets_in s n l) (sym lives);
  past = past_stays s before after life.past n accepted moment p.past;
}

-- a run goes on, and nobody accepts anything, no time passes, and nobody restarts
pub record IsQuiet (s : Setup) (before after : Run) : Type 0 where
  pub pasts : after.pasts ≡ before.pasts
  pub agents : length after.agent_pasts ≡ length before.agent_pasts
  pub mobiles : after.mobile_pasts ≡ before.mobile_pasts
  pub accepted : (n : ℕ) → accepted_by s.start after.past n ≡ accepted_by s.start before.past n
  pub moment : moment_in s.start after.past ≡ moment_in s.start before.past
  pub life : (n : ℕ) → life_in after.past n ≡ life_in before.past n
  pub kept : EachAfter (Meets s) [] before.past → EachAfter (Meets s) [] after.past

pub quiet_same : (s : Setup) (run : Run) → IsQuiet s run run
quiet_same s run = record { pasts = refl; agents = refl; mobiles = refl; accepted = λ n. refl; moment = refl; life = λ n. refl; kept = λ k. k }

pub quiet_then : (s : Setup) (a b c : Run) → IsQuiet s a b → IsQuiet s b c → IsQuiet s a c
quiet_then s a b c p q = record {
  pasts = q.pasts ∙ p.pasts;
  agents = q.agents ∙ p.agents;
  mobiles = q.mobiles ∙ p.mobiles;
  accepted = λ n. q.accepted n ∙ p.accepted n;
  moment = q.moment ∙ p.moment;
  life = λ n. q.life n ∙ p.life n;
  kept = λ k. q.kept (p.kept k);
}

-- what a run keeps, it keeps when it goes on quietly
pub quiet_run : (s : Setup) (a b : Run) → IsQuiet s a b → IsRun s a → IsRun s b
quiet_run s a b quiet run = record {
  nodes = ap (λ (l : List (List (Stamped Step))). length l) quiet.pasts ∙ run.nodes;
  agents = quiet.agents ∙ run.agents;
  mobiles = ap (λ (l : List (List (Stamped mobile_steps.Step))). length l) quiet.mobiles ∙ run.mobiles;
  kept = quiet.kept run.kept;
  pasts = λ n mine. by n (run.pasts n mine);
  parts = λ n home agent host.
      subst (λ (life : PartLife). IsPart s b.past life n) (ap (λ (l : List (List (Stamped mobile_steps.Step))). part_life home s.numbers (secrets_in s n 0) (slice_index_or l n [])) (sym quiet.mobiles))
      (part_stays s a.past b.past (part_in s a n home) n (quiet.accepted n) quiet.moment (quiet.life n) (run.parts n home agent host));
}
  where
    at : (n : ℕ) → past_at b n ≡ past_at a n
    at n = ap (λ (l : List (List (Stamped Step))). slice_index_or l n []) quiet.pasts

    by : (n : ℕ) → IsPast s a.past (past_at a n) n → IsPast s b.past (past_at b n) n
    by n p = subst (λ (l : List (Stamped Step)). IsPast s b.past l n) (sym (at n)) (past_stays s a.past b.past (past_at a n) n (quiet.accepted n) quiet.moment p)

-- entries that say nothing of moments, lives and acceptances
meets_quiet : (s : Setup) (front : List Entry) (e : Entry) → is_told e ≡ false → Meets s front e
meets_quiet s front (entries.At moment) quiet = absurd cc
meets_quiet s front (entries.Accepted node number home binding careof sequence end i j) quiet = absurd cc
meets_quiet s front _ quiet = tt

each_quiet : (s : Setup) (front es : List Entry) → list_any is_told es ≡ false → EachAfter (Meets s) front es
each_quiet s front [] quiet = tt
each_quiet s front (e ∷ es) quiet =
    let parts = or_parts (is_told e) (list_any is_told es) quiet in
    (meets_quiet s front e parts.0, each_quiet s (front ++ e ∷ []) es parts.1)

pub quiet_notes : (s : Setup) (es : List Entry) (run : Run) → list_any is_told es ≡ false → IsQuiet s run (notes es run)
quiet_notes s es run quiet = record {
  pasts = refl;
  agents = refl;
  mobiles = refl;
  accepted = λ n. same_accepted run.past es quiet s.start n;
  moment = same_moment run.past es quiet s.start;
  life = λ n. same_life run.past es quiet n;
  kept = λ k. each-append (Meets s) [] run.past es k (each_quiet s run.past es quiet);
}

pub quiet_one : (s : Setup) (run : Run) (e : Entry) → is_told e ≡ false → IsQuiet s run (note e run)
quiet_one s run e quiet = quiet_notes s (e ∷ []) run (ap (λ (b : Bool). b || false) quiet)

-- so are a packet that is posted, and claims of addresses that come to whatever they may
untold : (e : Entry) → is_busy e ≡ false → is_told e ≡ false
untold (entries.At moment) idle = absurd cc
untold (entries.Accepted node number home binding careof sequence end i j) idle = absurd cc
untold (entries.Restarted node) idle = absurd cc
untold _ idle = refl

module _ (s : Setup) (before : Run) where
  pub quiet_idle : (run : Run) (e : Entry) → is_busy e ≡ false → IsQuiet s before run → IsQuiet s before (note e run)
  quiet_idle run e idle quiet = quiet_then s before run (note e run) quiet (quiet_one s run e (untold e idle))

pub quiet_entered : (s : Setup) (post : Post) (e : Entry) (run : Run) → is_told e ≡ false → IsQuiet s run (entered post (note e run))
quiet_entered s post e run quiet =
    let q = quiet_one s run e quiet in record { pasts = q.pasts; agents = q.agents; mobiles = q.mobiles; accepted = q.accepted; moment = q.moment; life = q.life; kept = q.kept }

pub quiet_posted : (s : Setup) (post : Post) (by : Option ℕ) (e : Entry) (run : Run) → is_told e ≡ false → IsQuiet s run (posted s post by e run)
quiet_posted s post by e run quiet =
    keeps_overheard s (IsQuiet s run) (quiet_idle s run) post.from post.shield by (length run.posts) (entered post (note e run)) (quiet_entered s post e run quiet)

pub quiet_claims : (s : Setup) (who : ℕ) (address : Address) (run : Run) → IsQuiet s run (claims s who address run)
quiet_claims s who address run =
    keeps_claims s (IsQuiet s run) (quiet_idle s run) who address run (λ link holder. quiet_one s run (entries.Taken who link address holder) refl) (quiet_same s run)

pub quiet_gives_up : (s : Setup) (who : ℕ) (address : Address) (run : Run) → IsQuiet s run (gives_up s who address run)
quiet_gives_up s who address run = keeps_gives_up s (IsQuiet s run) (quiet_idle s run) who address run (quiet_same s run)

-- a run goes on, no time passes, and nobody restarts
pub record Goes (s : Setup) (before after : Run) : Type 0 where
  pub run : IsRun s after
  pub moment : moment_in s.start after.past ≡ moment_in s.start before.past
  pub life : (n : ℕ) → life_in after.past n ≡ life_in before.past n

pub goes_quietly : (s : Setup) (a b : Run) → IsRun s a → IsQuiet s a b → Goes s a b
goes_quietly s a b run quiet = record { run = quiet_run s a b quiet run; moment = quiet.moment; life = quiet.life }

pub goes_then : (s : Setup) (a b c : Run) → Goes s a b → Goes s b c → Goes s a c
goes_then s a b c p q = record { run = q.run; moment = q.moment ∙ p.moment; life = λ n. q.life n ∙ p.life n }
