-- Rules about the messages of a peer, by what the context knows.
use Rattle.std.proofs.Common.{◌≡◌, ℕ, suc, ◌+◌, ◌-◌, ◌<◌, ◌≤◌, zero, List, sym, ap, ◌∙◌, arith}
use Rattle.std.specs.Prelude.{Option, Some, None, Result, Ok, Err, Bool, ◌&&◌, ◌==◌, not, is_some, if◌then◌else◌}
use Rattle.mip_words.specs.declared.address.Address.{Address}
use Rattle.mip_words.specs.declared.why.Why.TheVariants as whys
use Rattle.mip_bulist.specs.declared.list_full.ListFull.{ListFull}
use Rattle.mip_bulist.specs.Rows.{given_row}
use Rattle.mip_rules_mobile.specs.Known.{Known}
use Rattle.mip_rules_mobile.specs.HomeQuestions.{home_of, registration_of}
use Rattle.mip_rules_mobile.specs.RowQuestions.{row_of, trial_of, is_bound_row, is_touched_row, bound_row_of}
use Rattle.mip_rules_mobile.specs.Steps.{Drops, Meets}
use Rattle.mip_rules_mobile.specs.Trials.{is_idle}
use Rattle.mip_rules_mobile.specs.Transitions.{Transition, noted}
use Rattle.mip_rules_mobile.specs.TrialRules.{each_from, starts}
use Rattle.mip_rules_mobile.specs.HomeRules.{starts_for, starts_bound, starts_deletion}
use Rattle.mip_rules_mobile.specs.PeerRules.{begins_at, meets, comes_right, test_at, cookie, home_row, careof_row, keeps_home, keeps_careof, takes_home_test, takes_careof_test, acks_trial, acks_row, takes_ack_of, loses, takes_error, renews, takes_refresh}

pub meets-by : (peer : Address) (t : Transition) (k : Known) (o : Result ℕ ListFull) → t.known ≡ k → o ≡ given_row peer k.list.rows → begins_at o (noted (Meets peer) t) ≡ meets peer t
unfolding meets
meets-by peer t k o known is =
    ap (λ (r : Result ℕ ListFull). begins_at r (noted (Meets peer) t)) (is ∙ ap (λ (l : Known). given_row peer l.list.rows) (sym known))

pub meets-nobody : (peer : Address) (t : Transition) (k : Known) (full : ListFull) → t.known ≡ k → given_row peer k.list.rows ≡ Err full → noted (Meets peer) t ≡ meets peer t
unfolding meets
meets-nobody peer t k full known is =
    ap (λ (r : Result ℕ ListFull). begins_at r (noted (Meets peer) t)) (sym is ∙ ap (λ (l : Known). given_row peer l.list.rows) (sym known))

abbrev pub may_begin : Known → ℕ → ℕ → Bool
may_begin k now row = is_idle (trial_of k row) && (not (is_bound_row k now row) && is_some (registration_of k now))

pub begins-by : (row : ℕ) (t : Transition) (k : Known) (now : ℕ) (b : Bool) → t.known ≡ k → t.now ≡ now → b ≡ may_begin k now row → (let u : Transition = (if b then starts row t else t) in u) ≡ begins_at (Ok row) t
begins-by row t k now b known moment is =
    ap (λ (x : Bool). let u : Transition = (if x then starts row t else t) in u)
    (is ∙ ap (λ (l : Known). may_begin l now row) (sym known) ∙ ap (λ (n : ℕ). may_begin t.known n row) (sym moment))

pub home-test-by : (number : ℕ) (through : Bool) (peer : Address) (index c : ℕ) (token : List ℕ) (t : Transition) (k : Known) (now : ℕ) (b : Bool) (row : Option ℕ) → t.known ≡ k → t.now ≡ now
    → b ≡ comes_right k.standing through → row ≡ home_row k peer (cookie c) (test_at now index token) (row_of k peer)
    → (let u : Transition = (if b then keeps_home number peer (cookie c) (test_at now index token) row t else noted (Drops number whys.Cookie) t) in u) ≡ takes_home_test number through peer index c token t
unfolding takes_home_test
home-test-by number through peer index c token t k now b row known moment right is =
    ap (λ (x : Bool). let u : Transition = (if x then keeps_home number peer (cookie c) (test_at now index token) row t else noted (Drops number whys.Cookie) t) in u)
    (right ∙ ap (λ (l : Known). comes_right l.standing through) (sym known))
    ∙ ap (λ (r : Option ℕ). let u : Transition = (if comes_right t.known.standing through then keeps_home number peer (cookie c) (test_at now index token) r t else noted (Drops number whys.Cookie) t) in u)
    (is ∙ ap (λ (l : Known). home_row l peer (cookie c) (test_at now index token) (row_of l peer)) (sym known))
    ∙ ap (λ (n : ℕ). let u : Transition = (if comes_right t.known.standing through then keeps_home number peer (cookie c) (test_at n index token) (home_row t.known peer (cookie c) (test_at n index token) (row_of t.known peer)) t else noted (Drops number whys.Cookie) t) in u)
    (sym moment)

pub careof-test-by : (number : ℕ) (through : Bool) (peer : Address) (index c : ℕ) (token : List ℕ) (t : Transition) (k : Known) (now : ℕ) (b : Bool) (row : Option ℕ) → t.known ≡ k → t.now ≡ now
    → b ≡ comes_right k.standing (not through) → row ≡ careof_row k peer (cookie c) (test_at now index token) (row_of k peer)
    → (let u : Transition = (if b then keeps_careof number peer (cookie c) (test_at now index token) row t else noted (Drops number whys.Cookie) t) in u) ≡ takes_careof_test number through peer index c token t
unfolding takes_careof_test
careof-test-by number through peer index c token t k now b row known moment right is =
    ap (λ (x : Bool). let u : Transition = (if x then keeps_careof number peer (cookie c) (test_at now index token) row t else noted (Drops number whys.Cookie) t) in u)
    (right ∙ ap (λ (l : Known). comes_right l.standing (not through)) (sym known))
    ∙ ap (λ (r : Option ℕ). let u : Transition = (if comes_right t.known.standing (not through) then keeps_careof number peer (cookie c) (test_at now index token) r t else noted (Drops number whys.Cookie) t) in u)
    (is ∙ ap (λ (l : Known). careof_row l peer (cookie c) (test_at now index token) (row_of l peer)) (sym known))
    ∙ ap (λ (n : ℕ). let u : Transition = (if comes_right t.known.standing (not through) then keeps_careof number peer (cookie c) (test_at n index token) (careof_row t.known peer (cookie c) (test_at n index token) (row_of t.known peer)) t else noted (Drops number whys.Cookie) t) in u)
    (sym moment)

pub acks-row : (number row : ℕ) (peer : Address) (status sequence lifetime : ℕ) (authenticator : Option (List ℕ)) (message : List ℕ) (t : Transition) (k : Known) → t.known ≡ k → row_of k peer ≡ Some row
    → acks_trial number row (home_of k) status sequence lifetime authenticator message (trial_of k row) t ≡ takes_ack_of number peer status sequence lifetime authenticator message t
unfolding takes_ack_of
acks-row number row peer status sequence lifetime authenticator message t k known is =
    ap (λ (l : Known). acks_trial number row (home_of l) status sequence lifetime authenticator message (trial_of l row) t) (sym known)
    ∙ ap (λ (o : Option ℕ). acks_row number o status sequence lifetime authenticator message t) (sym is ∙ ap (λ (l : Known). row_of l peer) (sym known))

pub acks-nobody : (number : ℕ) (peer : Address) (status sequence lifetime : ℕ) (authenticator : Option (List ℕ)) (message : List ℕ) (t : Transition) (k : Known) → t.known ≡ k → row_of k peer ≡ None
    → noted (Drops number whys.Ack) t ≡ takes_ack_of number peer status sequence lifetime authenticator message t
unfolding takes_ack_of
acks-nobody number peer status sequence lifetime authenticator message t k known is =
    ap (λ (o : Option ℕ). acks_row number o status sequence lifetime authenticator message t) (sym is ∙ ap (λ (l : Known). row_of l peer) (sym known))

pub error-by : (number : ℕ) (peer : Address) (status : ℕ) (home : Address) (t : Transition) (k : Known) (now : ℕ) (b : Bool) (row : Option ℕ) → t.known ≡ k → t.now ≡ now
    → b ≡ ((status == 1) && (home.0 == (home_of k).0)) → row ≡ bound_row_of k now peer → (let u : Transition = (if b then loses number row peer t else noted (Drops number whys.Error) t) in u) ≡ takes_error number peer status home t
unfolding takes_error
error-by number peer status home t k now b row known moment mine is =
    ap (λ (x : Bool). let u : Transition = (if x then loses number row peer t else noted (Drops number whys.Error) t) in u)
    (mine ∙ ap (λ (l : Known). (status == 1) && (home.0 == (home_of l).0)) (sym known))
    ∙ ap (λ (r : Option ℕ). let u : Transition = (if (status == 1) && (home.0 == (home_of t.known).0) then loses number r peer t else noted (Drops number whys.Error) t) in u)
    (is ∙ ap (λ (l : Known). bound_row_of l now peer) (sym known) ∙ ap (λ (n : ℕ). bound_row_of t.known n peer) (sym moment))

pub refresh-by : (number : ℕ) (peer : Address) (t : Transition) (k : Known) (now : ℕ) (row : Option ℕ) → t.known ≡ k → t.now ≡ now → row ≡ bound_row_of k now peer → renews number row t ≡ takes_refresh number peer t
unfolding takes_refresh
refresh-by number peer t k now row known moment is =
    ap (λ (r : Option ℕ). renews number r t) (is ∙ ap (λ (l : Known). bound_row_of l now peer) (sym known) ∙ ap (λ (n : ℕ). bound_row_of t.known n peer) (sym moment))

abbrev pub is_due : Known → ℕ → ℕ → Bool
is_due k now row = is_touched_row k row && (is_idle (trial_of k row) && not (is_bound_row k now row))

pub bound-by : (row : ℕ) (t : Transition) (k : Known) (now : ℕ) (b : Bool) → t.known ≡ k → t.now ≡ now → b ≡ is_due k now row → starts_for b row t ≡ starts_bound row t
bound-by row t k now b known moment is =
    ap (λ (x : Bool). starts_for x row t) (is ∙ ap (λ (l : Known). is_due l now row) (sym known) ∙ ap (λ (n : ℕ). is_due t.known n row) (sym moment))

pub deletion-by : (row : ℕ) (t : Transition) (k : Known) (b : Bool) → t.known ≡ k → b ≡ is_touched_row k row → starts_for b row t ≡ starts_deletion row t
deletion-by row t k b known is = ap (λ (x : Bool). starts_for x row t) (is ∙ ap (λ (l : Known). is_touched_row l row) (sym known))

-- a rule for each of the rows from one on, step by step
pub each-step : (rule : ℕ → Transition → Transition) (row : ℕ) (t : Transition) → row < 16 → each_from rule (16 - row) row t ≡ each_from rule (16 - (row + 1)) (row + 1) (rule row t)
each-step rule row t below =
    let more : 16 - row ≡ suc (16 - (row + 1)) = omega (arith, below) in
    ap (λ (n : ℕ). each_from rule n row t) more

pub each-done : (rule : ℕ → Transition → Transition) (row : ℕ) (t : Transition) → 16 ≤ row → each_from rule (16 - row) row t ≡ t
each-done rule row t done =
    let none : 16 - row ≡ zero = omega (arith, done) in
    ap (λ (n : ℕ). each_from rule n row t) none
