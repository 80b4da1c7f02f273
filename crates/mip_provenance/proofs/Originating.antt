-- A mark that is not forged is an origin.
use Rattle.std.proofs.Common.{◌≡◌, ℕ, List, refl, sym, ap, ◌∙◌, subst}
use Rattle.std.specs.Prelude.{map, Option, Some, None}
use Rattle.std.specs.List.{list_any}
use Rattle.mip_words.specs.declared.address.Address.{Address}
use Rattle.mip_tokens.specs.Token.{authenticator_over}
use Rattle.mip_entries.specs.declared.entry.Entry.{Entry}
use Rattle.mip_provenance.specs.declared.maker.Maker.{Maker}
use Rattle.mip_provenance.specs.declared.accepted_update.AcceptedUpdate.{AcceptedUpdate}
use Rattle.mip_provenance.specs.declared.mark.Mark.TheVariants.{Origin}
use Rattle.mip_provenance.specs.Keys.{kbm_of_tokens}
use Rattle.mip_provenance.specs.Lists.{until}
use Rattle.mip_provenance.specs.Entries.{declared_in}
use Rattle.mip_provenance.specs.Sights.{sight, sights}
use Rattle.mip_provenance.specs.ReachedLaws.{reaches}
use Rattle.mip_provenance.specs.Names.{life_at}
use Rattle.mip_provenance.specs.Firsts.{is_post}
use Rattle.mip_provenance.specs.Marks.{mark_of, mark_in}
use Rattle.mip_provenance.specs.Traces.{IsTraced, IsCareofTraced, IsTracedMark}
use Rattle.mip_provenance.specs.Causes.{Claim, home_claim, careof_claim_in}
use Rattle.mip_provenance.specs.Origins.{WasSent, HasReached, HasCareof, HasOrigin}
use Rattle.mip_provenance.specs.Laws.{AreLawful}
use Rattle.mip_provenance.proofs.Tokens.{same_bytes}
use Rattle.mip_provenance.proofs.Tracing.{traced}
use Rattle.mip_provenance.proofs.Plain.{carries_of_key}
use Rattle.mip_provenance.proofs.Standing.{first_stands, reached_stands, sent_stands}

-- a token that is traced reached the maker before these entries ended
reached_of : (past earlier : List Entry) (maker : Maker) (k : ℕ) (claim : Claim) (number : ℕ) → until (is_post k) (sights past) ≡ map (sight past) earlier
    → IsTraced (sights past) maker k claim number → HasReached past earlier maker claim.token
reached_of past earlier maker k claim number front t =
    reached_stands past earlier maker claim.token (ap (list_any (reaches maker claim.token)) (sym front) ∙ t.reached)

home_of : (past : List Entry) (a : AcceptedUpdate) (maker : Maker) (k : ℕ) (p : List ℕ) (hot : ℕ) → IsTraced (sights past) maker k (home_claim (sights past) a p) hot
    → WasSent past a.node hot 0 a.home_index p a.home
home_of past a maker k p hot t =
    subst (λ (n : ℕ). WasSent past a.node n 0 a.home_index p a.home) t.same (sent_stands past a.node 0 a.home_index p a.home t.naming t.first)

careof_of : (past earlier : List Entry) (a : AcceptedUpdate) (maker : Maker) (k : ℕ) (j : Option ℕ) (q : Option (List ℕ)) (cot : Option ℕ)
    → until (is_post k) (sights past) ≡ map (sight past) earlier → IsCareofTraced (sights past) a maker k j q cot → HasCareof past a earlier maker j q cot
careof_of past earlier a maker k (Some j) (Some q) (Some cot) front t = (
  subst (λ (n : ℕ). WasSent past a.node n 1 j q a.careof) t.same (sent_stands past a.node 1 j q a.careof t.naming t.first),
  reached_of past earlier maker k (careof_claim_in (life_at a.node.0 (sights past)) a q j) cot front t,
)
careof_of past earlier a maker k None None None front t = tt
careof_of past earlier a maker k None None (Some cot) front t = t
careof_of past earlier a maker k None (Some q) cot front t = t
careof_of past earlier a maker k (Some j) None cot front t = t
careof_of past earlier a maker k (Some j) (Some q) None front t = t

pub origin_stands : (past : List Entry) (a : AcceptedUpdate) (hot : ℕ) (cot : Option ℕ) (update : ℕ) → AreLawful (sights past) → mark_in past a ≡ Origin hot cot update → HasOrigin past a hot cot update
unfolding mark_in mark_of
origin_stands past a hot cot update lawful e = by (declared_in past a.node.0) refl e
  where
    stand : (own : Address) → declared_in past a.node.0 ≡ Some own → IsTracedMark (sights past) a own hot cot update → HasOrigin past a hot cot update
    stand own own_is t =
        let f = first_stands past t.key update t.post t.first_is t.post_is in
        record {
          own = own;
          own_is = own_is;
          key = t.key;
          carries = carries_of_key past a.number t.key t.key_is;
          maker = t.post.maker;
          earlier = f.earlier;
          first = f.first;
          home_token = t.pair.home;
          home_sent = home_of past a t.post.maker update t.pair.home hot t.home;
          home_reached = reached_of past f.earlier t.post.maker update (home_claim (sights past) a t.pair.home) hot f.front t.home;
          careof_token = t.pair.careof;
          careof = careof_of past f.earlier a t.post.maker update a.careof_index t.pair.careof cot f.front t.careof;
          authentic = same_bytes (authenticator_over (kbm_of_tokens t.pair.home t.pair.careof) a.careof own t.key.message) t.key.authenticator t.authentic;
        }

    by : (o : Option Address) → declared_in past a.node.0 ≡ o → mark_of (sights past) a o ≡ Origin hot cot update → HasOrigin past a hot cot update
    by None is e = absurd cc
    by (Some own) is e = stand own is (traced (sights past) a own hot cot update lawful e)
