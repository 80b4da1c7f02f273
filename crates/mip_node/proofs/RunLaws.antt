-- One turn more.
use Rattle.std.proofs.Common.{◌≡◌, ℕ, ◌+◌, List, [], ◌∷◌, ◌++◌, drop, refl, sym, subst, ◌∙◌, ap}
use Rattle.std.specs.Prelude.{option_map, None}
use Rattle.std.specs.Io.KnownBytes.{append_known}
use Rattle.std.proofs.lemmas.List.Sums.{fold_push}
use Rattle.mip_outside.specs.Moments.{moments_after}
use Rattle.mip_outside.proofs.Known.{append_none, append_more}
use Rattle.mip_trace.specs.Lines.{trace_text}
use Rattle.mip_config.specs.Configs.{Content}
use Rattle.mip_node.specs.Nodes.{Running, Datagrams, Serving, serving}
use Rattle.mip_node.specs.Seen.{Ahead, Coming, IsSeen, Sees, ahead_after, coming_after}
use Rattle.mip_node.specs.Turns.{Seen, World, first_node, first_world, turned, turned_once, run}
use Rattle.mip_node.specs.Runs.{Start, Stand, HasRun}
use Rattle.mip_node.specs.RunsLaws.{TurnDone}

ahead_more : (seen : List Seen) (x : Seen) (ahead : Ahead) → ahead_after (seen ++ x ∷ []) ahead ≡ option_map moments_after (ahead_after seen ahead)
ahead_more [] x ahead = refl
ahead_more (s ∷ seen) x ahead = ahead_more seen x (option_map moments_after ahead)

coming_more : (seen : List Seen) (x : Seen) (coming : Coming) → coming_after (seen ++ x ∷ []) coming ≡ option_map (drop 1) (coming_after seen coming)
coming_more [] x coming = refl
coming_more (s ∷ seen) x coming = coming_more seen x (option_map (drop 1) coming)

pub sees_more : (seen : List Seen) (x : Seen) (ahead : Ahead) (coming : Coming) → Sees ahead coming seen → IsSeen (ahead_after seen ahead) (coming_after seen coming) x
    → Sees ahead coming (seen ++ x ∷ [])
unfolding Sees
sees_more [] x ahead coming sees is = (is, tt)
sees_more (s ∷ seen) x ahead coming sees is = (sees.0, sees_more seen x (option_map moments_after ahead) (option_map (drop 1) coming) sees.1 is)

pub run_more : (c : Content) (seen : List Seen) (x : Seen) (sent : Datagrams) → run c (seen ++ x ∷ []) sent ≡ turned_once c (run c seen sent) x
unfolding run
run_more c seen x sent = fold_push (turned_once c) (first_world c sent) seen x

-- before the first turn
pub begins : (start : Start) → HasRun start 0 (record { ahead = start.ahead; coming = start.coming; node = first_node start.content; sent = start.sent; held = start.held })
unfolding run Sees
begins start = record {
  seen = [];
  sees = tt;
  number = refl;
  ahead = refl;
  coming = refl;
  node = refl;
  sent = refl;
  held = append_none start.held start.held refl;
}

pub turns_of_once : (c : Content) (w : World) (x : Seen) → (turned_once c w x).turns ≡ w.turns + 1
unfolding turned_once
turns_of_once c w x = refl

serving_of_once : (c : Content) (w : World) (x : Seen) → (turned_once c w x).serving ≡ turned c (w.turns + 1) x w.serving
unfolding turned_once
serving_of_once c w x = refl

pub text_of_once : (c : Content) (w : World) (x : Seen) → (turned_once c w x).text ≡ w.text ++ trace_text None (turned c (w.turns + 1) x w.serving).node.entries
unfolding turned_once
text_of_once c w x = refl

pub serving_is : (first : Start) (k : ℕ) (at : Stand) (ran : HasRun first k at) → serving at.node at.sent ≡ (run first.content ran.seen first.sent).serving
serving_is first k at ran =
    let w : World = run first.content ran.seen first.sent in
    ap (λ (n : Running). serving n at.sent) ran.node ∙ ap (λ (s : Datagrams). serving w.serving.node s) ran.sent

-- a turn was done
pub one_more : (start : Start) (k : ℕ) (old new : Stand) → HasRun start k old → TurnDone start.content (k + 1) old new → HasRun start (k + 1) new
one_more start k old new ran done =
    let c = start.content in
    let w : World = run c ran.seen start.sent in
    let x : Seen = done.seen in
    let more : run c (ran.seen ++ x ∷ []) start.sent ≡ turned_once c w x = run_more c ran.seen x start.sent in
    let number : w.turns ≡ k = ran.number in
    let before : serving old.node old.sent ≡ w.serving = serving_is start k old ran in
    let after : serving new.node new.sent ≡ turned c (w.turns + 1) x w.serving =
    done.serving ∙ ap (λ (s : Serving). turned c (k + 1) x s) before ∙ ap (λ (n : ℕ). turned c (n + 1) x w.serving) (sym number) in
    let here : serving new.node new.sent ≡ (run c (ran.seen ++ x ∷ []) start.sent).serving = after ∙ sym (serving_of_once c w x) ∙ ap (λ (v : World). v.serving) (sym more) in
    let text : (run c (ran.seen ++ x ∷ []) start.sent).text ≡ w.text ++ trace_text None new.node.entries =
    ap (λ (v : World). v.text) more ∙ text_of_once c w x ∙ ap (λ (s : Serving). w.text ++ trace_text None s.node.entries) (sym after) in
    record {
      seen = ran.seen ++ x ∷ [];
      sees = sees_more ran.seen x start.ahead start.coming ran.sees
          (subst (λ (l : Coming). IsSeen (ahead_after ran.seen start.ahead) l x) ran.coming (subst (λ (a : Ahead). IsSeen a old.coming x) ran.ahead done.is));
      number = ap (λ (v : World). v.turns) more ∙ turns_of_once c w x ∙ ap (λ (n : ℕ). n + 1) number;
      ahead = done.ahead ∙ ap (option_map moments_after) ran.ahead ∙ sym (ahead_more ran.seen x start.ahead);
      coming = done.coming ∙ ap (option_map (drop 1)) ran.coming ∙ sym (coming_more ran.seen x start.coming);
      node = ap (λ (s : Serving). s.node) here;
      sent = ap (λ (s : Serving). s.sent) here;
      held = append_more start.held old.held new.held w.text (trace_text None new.node.entries) ran.held done.held ∙ ap (append_known start.held) (sym text);
    }
