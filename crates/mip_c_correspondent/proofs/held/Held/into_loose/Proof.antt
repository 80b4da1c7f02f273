-- `into_loose` remembers the type behind the pointer.
use Rattle.std.proofs.Common.{true≢false, ◌≡◌, List, [], ◌∷◌, ◌++◌, refl, sym, subst}
use mir.Val.{Val, vptr}
use base.Logic.{SProp, ent, emp, id⊢, never, fst∗}
use types.Logic.{sem}
use mir.Raw.{raw as bare}
use denote.Memory.{lone}
use base.Fml.{ftrue}
use prog.Wp.{WpFn}
use types.Kit.{‵, raw, ◌⊛◌, ◌$◌, ◌∵◌, !, qed, by, move, keep, split, fsplit, fjoin, fpick, suffices, use0, rewrite}
use types.Run.{stop, fld, of_opd, no_more, and_then, returns, enter}
use types.ByLocal.{alloc_all, pass_all, free_all, look_at, get, get_in, sets}
use types.Part.{agg, sub, whole}
use contract.Monad.{fact, fact_i}
use contract.Running.{tables}
use denote.Exit.{yes}
use denote.RattleType.{RattleType, owns}
use denote.Signature.{types_at, plain}
use denote.RawPtr.{Ptr, block_ptr, null_ptr, in_a_block}
use denote.Steps.{nothing, heard}
use denote.Triple.Walked.{Stays, stay_dropped, walk_of, Goes-dropped}
use Rattle.std.proofs.raw_atomic.Walks.{proved_at, leaves}
use Rattle.std.specs.Prelude.{None, Some, Option}
use Rattle.std.specs.Box.Ownership.{box_owns}
use Rattle.std.specs.contracts.alloc.Global as heap
use Rattle.std.proofs.alloc.Global.TheLaws as heap_laws
use Rattle.std.specs.contracts.impls.GlobalAllocator.TheImpl.{ghosts}
use Rattle.mip_c_words.specs.Keeping.{keeps}
use Rattle.mip_c_correspondent.specs.contracts.station.Station as station
use Rattle.mip_c_words.proofs.Values.{both, loose_good, loose_in}
use Rattle.mip_c_words.proofs.Values.{word}
use Rattle.mip_c_correspondent.specs.contracts.held.Held as held
use Rattle.mip_c_correspondent.proofs.HeldValues.{held_out}
use Rattle.std.specs.Prelude.{is_some, true}
use Rattle.std.proofs.alloc.Calls.{handle_tells}
use Rattle.mip_c_words.proofs.Values.{al}
use Rattle.mip_c_correspondent.specs.contracts.held.Held.into_loose.{ended, clauses}
use Rattle.mip_c_correspondent.specs.contracts.held.Held.into_loose.Key.{name as #self}
use Rattle.mip_c_correspondent.proofs.held.Held.into_loose.Statement.{statement}
use Rattle.mip_c_correspondent.proofs.held.Held.into_loose.Code as code

kept : {S : Type 0} (o : Option S) → is_some o ≡ true → (s : S) × (o ≡ Some s)
kept (Some s) e = (s, refl)
kept None e = absurd (true≢false (sym e))

pub into_loose_spec : {M : Type 1} → statement M
into_loose_spec 𝓤 𝓛 𝓜 𝓡 wired =
    let H = 𝓛.H in let 𝓣 = tables 𝓤 H 𝓜 𝓡 𝓡.env in let R : RattleType = station.the_row in let Z : RattleType = heap.the_row in let LZ = heap_laws.the_row_laws in let En = ended in let c = clauses 𝓛 𝓜.mem 𝓡.returns in
    let fn = code.function in let hs : Stays En.signature.params En.kept = (stay_dropped (plain (λ _. held.the_row)) yes, (stay_dropped (plain (λ _. Z)) yes, tt)) in
    proved_at 𝓛 En hs c 𝓜 𝓡 (Goes-dropped 𝓛 0 (plain (λ _. held.the_row)) yes (λ κs x f. refl), (Goes-dropped 𝓛 0 (plain (λ _. Z)) yes (λ κs x f. refl), tt)) #self fn (code.unfolded 𝓤 H 𝓜 𝓡 wired) (λ z are.
    let κs = z.0.0 in let d = z.0.3.0 in let a = z.0.3.1.0 in let Post : Val → SProp 𝓤 = (walk_of 𝓛 En hs c).post z in let Run : List Val → SProp 𝓤 = λ ws. WpFn 𝓤 H 𝓣.C 𝓣.Λ fn ws Post in
    qed 𝓛 ((‵ ftrue ⊛ ‵ (owns (types_at En.signature.params κs) z.0.3 z.0.4)) ∷ raw ((c κs z.0.3).requires z.1) ∷ []) ∵
    move ! (1 ∷ []) $ heard ! (is_some d.value ≡ true) (λ some. let s = (kept d.value some).0 in let es = (kept d.value some).1 in
    split ! $ move ! (1 ∷ []) $ fsplit ! $ held_out ! d z.0.4.0 (λ ws.
    rewrite ! 0 (λ (x : Option R.Denot). ‵ (keeps R d.at x)) es refl $ fpick ! (λ a'.
    in_a_block ! d.at (λ p. box_owns (ghosts.dealloc_token a) R p s) (fst∗ 𝓤 (never 𝓤) (sem 𝓛 (ghosts.dealloc_token a (bare (lone R.mir)) null_ptr))) (λ b o e.
    move ! (1 ∷ []) $ fsplit ! $ handle_tells (al R Z LZ ghosts) ! a z.0.4.1.0 (λ h ea fits.
    let w : Val = word (block_ptr b o) in let v : Val = both (vptr b o) h in let typed = loose_good R Z LZ ghosts b o h fits in
    let ws' : z.0.4.0 ≡ w ∷ [] = subst (λ (p : Ptr). z.0.4.0 ≡ word p ∷ []) e ws in
    suffices ! (Run (w ∷ h ∷ [])) (subst (λ (us : List Val). ent 𝓤 (Run (w ∷ h ∷ [])) (Run us)) (sym (λ i. ws' i ++ (ea i ++ []))) (id⊢ 𝓤 (Run (w ∷ h ∷ [])))) $
    enter ! 𝓣.C 𝓣.Λ fn (w ∷ h ∷ []) Post $ alloc_all ! (λ l. pass_all ! refl ((tt, (tt, tt)), (fits, tt)) $
    sets ! (of_opd ! (get_in ! (fld ! refl (stop !)) (sub ! 0 refl (whole !)))) refl (tt, tt) $ sets ! (of_opd ! (get ! refl)) refl (tt, tt) $
    sets ! (agg ! (and_then ! (get ! refl) (and_then ! (get ! refl) (no_more !)))) refl typed $
    move ! (2 ∷ 0 ∷ []) $ loose_in R Z LZ ghosts ! b o h a s $
    use0 𝓛 (raw (fact 𝓤 (d.value ≡ Some s))) (fact_i 𝓤 (d.value ≡ Some s) (emp 𝓤) es) $ nothing ! $ nothing ! $ fjoin ! $ nothing ! $ fjoin ! $
    returns ! (look_at ! 0 refl) $ free_all ! refl $ keep ! (4 ∷ 0 ∷ 2 ∷ 1 ∷ []) $ by ! (leaves 𝓛 En hs c z v (record { at = block_ptr b o; alloc = a; value = s }) (tt, (tt, tt)) (tt, (tt, tt))))))))))
