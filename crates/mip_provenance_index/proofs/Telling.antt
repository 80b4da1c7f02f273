-- Where packets are heard and handed over only once they were posted, each entry is seen as in the whole history.
use Rattle.std.proofs.Common.{◌≡◌, ℕ, List, [], ◌∷◌, ◌++◌, refl, sym, ap, ◌∙◌}
use Rattle.std.specs.Prelude.{map, Option, Some, None}
use Rattle.std.specs.Option.{option_or, option_and_then}
use Rattle.std.proofs.lemmas.List.{append_assoc}
use Rattle.mip_words.specs.EachAfter.{EachAfter}
use Rattle.mip_packets.specs.Says.{carried}
use Rattle.mip_entries.specs.declared.entry.Entry.{Entry}
use Rattle.mip_entries.specs.declared.entry.Entry.TheVariants as entries
use Rattle.mip_provenance.specs.Lists.{first_some, along}
use Rattle.mip_provenance.specs.Entries.{packet_told, packet_in}
use Rattle.mip_provenance.specs.Sights.{Sight, token_in, token_at, sight, sights}
use Rattle.mip_provenance.specs.Sights.Sight.{Heard, Handed}
use Rattle.mip_provenance.proofs.Plain.{packet_first}
use Rattle.mip_provenance_index.specs.Sights.{seen_behind, seen_in}
use Rattle.mip_provenance_index.specs.Told.{IsTold, AreTold}
use Rattle.mip_provenance_index.proofs.Steps.{first_more}

-- a packet that was posted stays the one with its number
token_stays : (front rest : List Entry) (k : ℕ) → (packet_in front k ≡ None → ⊥) → token_at front k ≡ token_at (front ++ rest) k
token_stays front rest k there =
    ap (λ (o : Option (List ℕ)). option_and_then (λ bytes. token_in (carried bytes)) o)
    (packet_first k front ∙ by (first_some (packet_told k) front) (λ none. there (packet_first k front ∙ none))
    ∙ sym (first_more (packet_told k) front rest) ∙ sym (packet_first k (front ++ rest)))
  where
    by : (o : Option (List ℕ)) → (o ≡ None → ⊥) → o ≡ option_or o (first_some (packet_told k) rest)
    by None there = absurd (there refl)
    by (Some x) there = refl

sight_stays : (front rest : List Entry) (e : Entry) → IsTold front e → sight front e ≡ sight (front ++ rest) e
sight_stays front rest (entries.Heard number outsider) told = ap (Heard outsider) (token_stays front rest number told)
sight_stays front rest (entries.Handed number node) told = ap (Handed node.0) (token_stays front rest number told)
sight_stays front rest _ told = refl

seen_from : (past front es : List Entry) → past ≡ front ++ es → EachAfter IsTold front es → along seen_behind front es ≡ map (sight past) es
seen_from past front [] whole told = refl
seen_from past front (e ∷ es) whole told =
    two (sight_stays front (e ∷ es) e told.0 ∙ ap (λ (l : List Entry). sight l e) (sym whole))
    (seen_from past (front ++ e ∷ []) es (whole ∙ sym (append_assoc front (e ∷ []) es)) told.1)
  where
    two : {x y : Sight} {l m : List Sight} → x ≡ y → l ≡ m → x ∷ l ≡ y ∷ m
    two {x} {y} {l} {m} a b = cc

pub seen_all : (past : List Entry) → AreTold past → seen_in past ≡ sights past
unfolding seen_in sights
seen_all past told = seen_from past [] past refl told
