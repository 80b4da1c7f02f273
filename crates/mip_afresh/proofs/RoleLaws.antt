-- What is kept of a node is of that node, as it is taken out and put back.
use Rattle.std.proofs.Common.{◌≡◌, ℕ, zero, suc, List, [], ◌∷◌, ◌<◌, true, false, length, refl, sym, ap, ◌∙◌, subst, length-set}
use Rattle.std.proofs.lemmas.List.{length-map}
use Rattle.std.proofs.lemmas.Option.{slice_get_within}
use Rattle.std.specs.Prelude.{Option, Some, None, IfSome, map, slice_get, slice_set, slice_index_or}
use Rattle.mip_entries.specs.Stamped.{Stamped}
use Rattle.mip_rules_agent.specs.Steps as agents
use Rattle.mip_rules_mobile.specs.Steps as mobiles
use Rattle.mip_history.specs.Setup.{Setup, is_mobile_host}
use Rattle.mip_history.specs.Runs.{Run, with_agent_past, with_mobile_past}
use Rattle.mip_afresh_agent.specs.Agents.{AgentSeen}
use Rattle.mip_afresh_mobile.specs.Nodes.{NodeSeen}
use Rattle.mip_afresh.specs.declared.role.Role.{Role}
use Rattle.mip_afresh.specs.declared.role.Role.TheVariants.{Plain, Agent, Mobile}
use Rattle.mip_afresh.specs.Tellings.{TellingSeen, with_run}
use Rattle.mip_afresh.specs.Roles.{agent_past, mobile_past, IsAgent, IsMobile, IsOf, AreOf, StandsAs, IsTaken}

pub map_set : {X Y : Type 0} (f : X → Y) (xs : List X) (n : ℕ) (x : X) → map f (slice_set xs n x) ≡ slice_set (map f xs) n (f x)
map_set f [] n x = refl
map_set f (y ∷ ys) zero x = refl
map_set f (y ∷ ys) (suc n) x = ap (λ (l : List _). f y ∷ l) (map_set f ys n x)

-- what is set to what it was
pub kept_set : {X Y : Type 0} (f : X → Y) (xs : List X) (n : ℕ) (x : X) (v : Y) → slice_get xs n ≡ Some x → v ≡ f x → slice_set (map f xs) n v ≡ map f xs
kept_set f [] n x v is same = refl
kept_set f (y ∷ ys) zero x v is same = ap (λ (z : _). z ∷ map f ys) (same ∙ ap f (sym (here y x is)))
  where
    here : {X : Type 0} (a b : X) → Some a ≡ Some b → a ≡ b
    here a b e = cc
kept_set f (y ∷ ys) (suc n) x v is same = ap (λ (l : List _). f y ∷ l) (kept_set f ys n x v is same)

-- beyond the last nothing is set
pub none_set : {X Y : Type 0} (f : X → Y) (xs : List X) (n : ℕ) (v : Y) → ◌≡◌ {A = Option X} (slice_get xs n) None → slice_set (map f xs) n v ≡ map f xs
none_set f [] n v none = refl
none_set f (y ∷ ys) zero v none = absurd cc
none_set f (y ∷ ys) (suc n) v none = ap (λ (l : List _). f y ∷ l) (none_set f ys n v none)

pub there : {X Y : Type 0} (f : X → Y) (xs : List X) (n : ℕ) (x : X) (d : Y) → slice_get xs n ≡ Some x → slice_index_or (map f xs) n d ≡ f x
there f [] n x d is = absurd cc
there f (y ∷ ys) zero x d is = ap f (here y x is)
  where
    here : {X : Type 0} (a b : X) → Some a ≡ Some b → a ≡ b
    here a b e = cc
there f (y ∷ ys) (suc n) x d is = there f ys n x d is

set_all : (P : ℕ → Role → Type 0) (roles : List Role) (n : ℕ) (role : Role) → ((m : ℕ) → IfSome (slice_get roles m) (P m)) → P n role → (m : ℕ) → IfSome (slice_get (slice_set roles n role) m) (P m)
set_all P [] n role all p m = all m
set_all P (r ∷ rs) zero role all p zero = p
set_all P (r ∷ rs) zero role all p (suc m) = all (suc m)
set_all P (r ∷ rs) (suc n) role all p zero = all zero
set_all P (r ∷ rs) (suc n) role all p (suc m) = set_all (λ (k : ℕ). P (suc k)) rs n role (λ (k : ℕ). all (suc k)) p m

none_there : (roles : List Role) (n : ℕ) → ◌≡◌ {A = Option Role} (slice_get roles n) None → slice_index_or roles n Plain ≡ Plain
none_there [] n none = refl
none_there (r ∷ rs) zero none = absurd cc
none_there (r ∷ rs) (suc n) none = none_there rs n none

some_there : (roles : List Role) (n : ℕ) (role : Role) → slice_get roles n ≡ Some role → slice_index_or roles n Plain ≡ role
some_there [] n role is = absurd cc
some_there (r ∷ rs) zero role is = cc
some_there (r ∷ rs) (suc n) role is = some_there rs n role is

pub set_of : (s : Setup) (roles : List Role) (n : ℕ) (role : Role) → AreOf s roles → IsOf s n role → AreOf s (slice_set roles n role)
set_of s roles n role are is = set_all (IsOf s) roles n role are is

-- no mobile stands where an agent is, and no agent where a mobile is
not_mobile : (s : Setup) (n : ℕ) (a : AgentSeen) (m : NodeSeen) → IsAgent s n a → IsMobile s n m → ⊥
not_mobile s n a m is other = absurd (let both : false ≡ true = ap is_mobile_host (sym is ∙ other.host) in cc)

mobile_none : (s : Setup) (n : ℕ) (a : AgentSeen) (role : Role) → IsAgent s n a → IsOf s n role → ◌≡◌ {A = List (Stamped mobiles.Step)} [] (mobile_past role)
mobile_none s n a Plain is of = refl
mobile_none s n a (Agent b) is of = refl
mobile_none s n a (Mobile m) is of = absurd (not_mobile s n a m is of)

agent_none : (s : Setup) (n : ℕ) (m : NodeSeen) (role : Role) → IsMobile s n m → IsOf s n role → ◌≡◌ {A = List (Stamped agents.Step)} [] (agent_past role)
agent_none s n m Plain is of = refl
agent_none s n m (Agent a) is of = absurd (not_mobile s n a m of is)
agent_none s n m (Mobile other) is of = refl

set_none : {S : Type 0} (f : Role → List S) (s : Setup) (n : ℕ) (roles : List Role) → ((role : Role) → IsOf s n role → [] ≡ f role) → (o : Option Role) → slice_get roles n ≡ o → IfSome o (IsOf s n)
    → slice_set (map f roles) n [] ≡ map f roles
set_none f s n roles none None is of = none_set f roles n [] is
set_none f s n roles none (Some role) is of = kept_set f roles n role [] is (none role of)

-- where an agent is put, the pasts of mobiles stay, and where a mobile is put, those of agents
pub agent_put : (s : Setup) (n : ℕ) (roles : List Role) (a : AgentSeen) → AreOf s roles → IsAgent s n a → map mobile_past (slice_set roles n (Agent a)) ≡ map mobile_past roles
agent_put s n roles a are is = map_set mobile_past roles n (Agent a) ∙ set_none mobile_past s n roles (λ (r : Role). mobile_none s n a r is) (slice_get roles n) refl (are n)

pub mobile_put : (s : Setup) (n : ℕ) (roles : List Role) (m : NodeSeen) → AreOf s roles → IsMobile s n m → map agent_past (slice_set roles n (Mobile m)) ≡ map agent_past roles
mobile_put s n roles m are is = map_set agent_past roles n (Mobile m) ∙ set_none agent_past s n roles (λ (r : Role). agent_none s n m r is) (slice_get roles n) refl (are n)

-- what stands in a run
pub stands_as : (t : TellingSeen) (roles : List Role) (n : ℕ) → t.run.agent_pasts ≡ map agent_past roles → t.run.mobile_pasts ≡ map mobile_past roles → AreOf t.setup roles → StandsAs t n (slice_get roles n)
stands_as t roles n agents mobiles are = by (slice_get roles n) refl (are n)
  where
    by : (o : Option Role) → slice_get roles n ≡ o → IfSome o (IsOf t.setup n) → StandsAs t n o
    by None is of = tt
    by (Some Plain) is of = tt
    by (Some (Agent a)) is of = record { is = of; past = ap (λ (l : List (List (Stamped _))). slice_index_or l n []) agents ∙ there agent_past roles n (Agent a) [] is }
    by (Some (Mobile m)) is of = record { is = of; past = ap (λ (l : List (List (Stamped _))). slice_index_or l n []) mobiles ∙ there mobile_past roles n (Mobile m) [] is }

-- what is put back where it was
restored : {X Y : Type 0} (f : X → Y) (xs : List X) (n : ℕ) (x y : X) → slice_get xs n ≡ Some x → slice_set (map f (slice_set xs n y)) n (f x) ≡ map f xs
restored f [] n x y is = absurd cc
restored f (z ∷ zs) zero x y is = ap (λ (v : _). f v ∷ map f zs) (here x z is)
  where
    here : {X : Type 0} (a b : X) → Some b ≡ Some a → a ≡ b
    here a b e = cc
restored f (z ∷ zs) (suc n) x y is = ap (λ (l : List _). f z ∷ l) (restored f zs n x y is)

module _ (s : Setup) (base : Run) where
  abbrev pub seen : List Role → TellingSeen
  seen roles = record { setup = s; run = record base { agent_pasts = map agent_past roles; mobile_pasts = map mobile_past roles } }

  both : (xs xs' : List (List (Stamped agents.Step))) (ys ys' : List (List (Stamped mobiles.Step))) → xs ≡ xs' → ys ≡ ys'
      → ◌≡◌ {A = TellingSeen} (record { setup = s; run = record base { agent_pasts = xs; mobile_pasts = ys } }) (record { setup = s; run = record base { agent_pasts = xs'; mobile_pasts = ys' } })
  both xs xs' ys ys' one two =
      ap (λ (l : List (List (Stamped agents.Step))). let t : TellingSeen = record { setup = s; run = record base { agent_pasts = l; mobile_pasts = ys } } in t) one
      ∙ ap (λ (l : List (List (Stamped mobiles.Step))). let t : TellingSeen = record { setup = s; run = record base { agent_pasts = xs'; mobile_pasts = l } } in t) two

  set_plain : {S : Type 0} (f : Role → List S) (roles : List Role) (n : ℕ) (o : Option Role) → slice_get roles n ≡ o → IfSome o (λ r. [] ≡ f r) → f Plain ≡ [] → map f (slice_set roles n Plain) ≡ map f roles
  set_plain f roles n None is none plain = map_set f roles n Plain ∙ none_set f roles n (f Plain) is
  set_plain f roles n (Some role) is none plain = map_set f roles n Plain ∙ kept_set f roles n role (f Plain) is (plain ∙ none)

  inside_of : {X Y : Type 0} (f : X → Y) (xs : List X) (n : ℕ) (x y : X) → slice_get xs n ≡ Some x → n < length (map f (slice_set xs n y))
  inside_of f xs n x y is =
      subst (λ (k : ℕ). n < k) (sym (length-map (slice_set xs n y) f ∙ length-set xs n y)) (slice_get_within xs n x is)

  pub taken : (roles : List Role) (n : ℕ) → AreOf s roles → IsTaken (seen roles) (seen (slice_set roles n Plain)) n (slice_index_or roles n Plain)
  taken roles n are = by (slice_get roles n) refl (are n)
    where
      by : (o : Option Role) → slice_get roles n ≡ o → IfSome o (IsOf s n) → IsTaken (seen roles) (seen (slice_set roles n Plain)) n (slice_index_or roles n Plain)
      by None is of =
          subst (IsTaken (seen roles) (seen (slice_set roles n Plain)) n) (sym (none_there roles n is))
          (both _ _ _ _ (set_plain agent_past roles n None is tt refl) (set_plain mobile_past roles n None is tt refl))
      by (Some Plain) is of =
          subst (IsTaken (seen roles) (seen (slice_set roles n Plain)) n) (sym (some_there roles n Plain is))
          (both _ _ _ _ (set_plain agent_past roles n (Some Plain) is refl refl) (set_plain mobile_past roles n (Some Plain) is refl refl))
      by (Some (Agent a)) is of =
          subst (IsTaken (seen roles) (seen (slice_set roles n Plain)) n) (sym (some_there roles n (Agent a) is)) (
            record { is = of; inside = inside_of agent_past roles n (Agent a) Plain is },
            both _ _ _ _ (sym (restored agent_past roles n (Agent a) Plain is)) (sym (set_plain mobile_past roles n (Some (Agent a)) is refl refl)),
          )
      by (Some (Mobile m)) is of =
          subst (IsTaken (seen roles) (seen (slice_set roles n Plain)) n) (sym (some_there roles n (Mobile m) is)) (
            record { is = of; inside = inside_of mobile_past roles n (Mobile m) Plain is },
            both _ _ _ _ (sym (set_plain agent_past roles n (Some (Mobile m)) is refl refl)) (sym (restored mobile_past roles n (Mobile m) Plain is)),
          )

  -- an agent that is put back has its past in the run, and so has a mobile
  pub put_agent_back : (roles : List Role) (n : ℕ) (a : AgentSeen) → AreOf s roles → IsAgent s n a → seen (slice_set roles n (Agent a)) ≡ with_run (with_agent_past n a.past (let t = seen roles in t.run)) (seen roles)
  put_agent_back roles n a are is = both _ _ _ _ (map_set agent_past roles n (Agent a)) (agent_put s n roles a are is)

  pub put_mobile_back : (roles : List Role) (n : ℕ) (m : NodeSeen) → AreOf s roles → IsMobile s n m → seen (slice_set roles n (Mobile m)) ≡ with_run (with_mobile_past n m.past (let t = seen roles in t.run)) (seen roles)
  put_mobile_back roles n m are is = both _ _ _ _ (mobile_put s n roles m are is) (map_set mobile_past roles n (Mobile m))
