-- A turn from its parts.
use Rattle.std.proofs.Common.{◌≡◌, ℕ, List, [], ◌∷◌, take, drop, refl, sym, subst, ◌∙◌, ap, inl, inr}
use Rattle.std.specs.Prelude.{Option, None, Some, IfSome, Result, Ok, Err, OnOk, option_map, ◌⊎◌}
use Rattle.mip_outside.specs.Moments.{IsAnswer}
use Rattle.mip_config.specs.Configs.{Content}
use Rattle.mip_node.specs.Nodes.{Running, Datagrams, Serving, serving}
use Rattle.mip_node.specs.Seen.{Ahead, Coming, IsNext, IsSeen}
use Rattle.mip_node.specs.Turns.{Seen, before, received, turned}
use Rattle.mip_node.specs.Faults.{Between, Broke}
use Rattle.mip_node.proofs.Growing.{grew_not, before_grew, received_grew}

-- what came is what the turn found
seen-of : (ahead : Ahead) (coming : Coming) (now : ℕ) (item : Option (List ℕ)) → IfSome ahead (λ moments. IsAnswer moments now) → IfSome coming (λ items. IsNext items item)
    → IsSeen ahead coming (now, item)
seen-of ahead coming now item told came = (told, came)

after-before : (c : Content) (turn now : ℕ) (s : Serving) (node : Running) (sent sent_next : Datagrams) → serving node sent ≡ before c turn now s → sent_next ≡ sent
    → serving node sent_next ≡ before c turn now s
after-before c turn now s node sent sent_next first same = ap (λ (d : Datagrams). serving node d) same ∙ first

pub turn_done : {A E : Type 0} (r : Result A E) (c : Content) (turn now : ℕ) (item : Option (List ℕ)) (ahead : Ahead) (coming coming_next : Coming) (s last : Serving) (node : Running)
    (sent sent_next : Datagrams) → IfSome ahead (λ moments. IsAnswer moments now) → coming_next ≡ coming → IfSome coming_next (λ items. IsNext items item)
    → serving node sent ≡ before c turn now s → sent_next ≡ sent → OnOk r (last ≡ received c now item (serving node sent_next))
    → OnOk r ((x : Seen) × IsSeen ahead coming x × (last ≡ turned c turn x s))
unfolding turned
turn_done (Err e) c turn now item ahead coming coming_next s last node sent sent_next told still came first same then = tt
turn_done (Ok x) c turn now item ahead coming coming_next s last node sent sent_next told still came first same then = (
  (now, item),
  seen-of ahead coming now item told (subst (λ (l : Coming). IfSome l (λ items. IsNext items item)) still came),
  then ∙ ap (received c now item) (after-before c turn now s node sent sent_next first same),
)

-- the turn was cut before it listened
pub early_broke : (c : Content) (turn now : ℕ) (ahead : Ahead) (coming left : Coming) (s : Serving) (sent : Datagrams)
    → IfSome ahead (λ moments. IsAnswer moments now) → left ≡ coming → Between s.sent sent (before c turn now s).sent → Broke c turn ahead coming s left sent
early_broke c turn now ahead coming left s sent told kept cut = inl (record { now = now; is = told; left = kept; sent = cut })

-- some item came, whatever is to come
next-of : (coming : Coming) → (item : Option (List ℕ)) × IfSome coming (λ items. IsNext items item)
next-of None = (None, tt)
next-of (Some []) = (None, refl)
next-of (Some (next ∷ items)) = (option_map (take 4097) next, refl)

-- the call of `receive` failed, or there was no memory for what it gave
pub receive_broke : (c : Content) (turn now : ℕ) (ahead : Ahead) (coming coming_next left : Coming) (s : Serving) (node : Running) (sent sent_next : Datagrams)
    → IfSome ahead (λ moments. IsAnswer moments now) → coming_next ≡ coming → (left ≡ coming_next) ⊎ (left ≡ option_map (drop 1) coming_next)
    → serving node sent ≡ before c turn now s → sent_next ≡ sent → Broke c turn ahead coming s left sent_next
unfolding turned
receive_broke c turn now ahead coming coming_next left s node sent sent_next told still (inl kept) first same =
    let is : sent_next ≡ (before c turn now s).sent = ap (λ (t : Serving). t.sent) (after-before c turn now s node sent sent_next first same) in
    early_broke c turn now ahead coming left s sent_next told (kept ∙ still)
    (subst (λ (d : Datagrams). Between s.sent d (before c turn now s).sent) (sym is) (record { since = before_grew c turn now s; until = grew_not (before c turn now s).sent }))
receive_broke c turn now ahead coming coming_next left s node sent sent_next told still (inr gone) first same =
    let b : Serving = before c turn now s in
    let item : (item : Option (List ℕ)) × IfSome coming (λ items. IsNext items item) = next-of coming in
    let is : sent_next ≡ b.sent = ap (λ (t : Serving). t.sent) (after-before c turn now s node sent sent_next first same) in
    inr (record {
      seen = (now, item.0);
      is = seen-of ahead coming now item.0 told item.1;
      left = gone ∙ ap (option_map (drop 1)) still;
      sent = subst (λ (d : Datagrams). Between b.sent d (received c now item.0 b).sent) (sym is) (record { since = grew_not b.sent; until = received_grew c now item.0 b });
    })

-- a call of `send` failed in answer to what came
pub answer_broke : (c : Content) (turn now : ℕ) (item : Option (List ℕ)) (ahead : Ahead) (coming coming_next coming_last left : Coming) (s : Serving) (node : Running) (sent sent_next sent_last : Datagrams)
    → IfSome ahead (λ moments. IsAnswer moments now) → coming_next ≡ coming → IfSome coming_next (λ items. IsNext items item) → coming_last ≡ option_map (drop 1) coming_next → left ≡ coming_last
    → serving node sent ≡ before c turn now s → sent_next ≡ sent → Between sent_next sent_last (received c now item (serving node sent_next)).sent
    → Broke c turn ahead coming s left sent_last
unfolding turned
answer_broke c turn now item ahead coming coming_next coming_last left s node sent sent_next sent_last told still came gone kept first same cut =
    let is : serving node sent_next ≡ before c turn now s = after-before c turn now s node sent sent_next first same in
    inr (record {
      seen = (now, item);
      is = seen-of ahead coming now item told (subst (λ (l : Coming). IfSome l (λ items. IsNext items item)) still came);
      left = kept ∙ gone ∙ ap (option_map (drop 1)) still;
      sent = subst (λ (t : Serving). Between t.sent sent_last (received c now item t).sent) is cut;
    })
