use Rattle.std.proofs.Common.{◌≡◌, ◌∙◌, ℕ, ap, sym, subst}
use Rattle.std.specs.Prelude.{option_map}
use Rattle.mip_words.specs.declared.token.Token.{Token}
use Rattle.mip_provenance_index.specs.declared.provenance_index.ProvenanceIndex.{ProvenanceIndex}
use Rattle.mip_provenance_index.specs.Sights.{sight_of, token_sighted}
use Rattle.mip_provenance_index.specs.Updates.{AreOf, update_at, update_posted, look_step, at_step}
use Rattle.mip_provenance_index.proofs.Noting.{Noted, posted_token, token_mute, stands_hearing, stands_more, stands_mute}
use Rattle.mip_provenance_index.proofs.provenance_index.ProvenanceIndex.note.Goals as goal

pub returns-then-is_mute-clause-stands : goal.returns-then-is_mute-clause-stands
returns-then-is_mute-clause-stands c = λ past stands next bytes.
    stands_mute c.args.self.now past c.args.entry.now _ (sym c.is_mute.ensures ∙ c.if-is_mute.true) stands next bytes

pub returns-then-is_mute-clause-token : goal.returns-then-is_mute-clause-token
returns-then-is_mute-clause-token c = token_mute c.args.entry.now (sym c.is_mute.ensures ∙ c.if-is_mute.true)

pub returns-in-Heard-clause-stands : goal.returns-in-Heard-clause-stands
returns-in-Heard-clause-stands c = λ past stands next bytes.
    stands_hearing c.args.self.now c.hear.new.self past c.args.entry.now _ _ c.args.heard c.in-Heard.is c.in_ok-hear.ensures.known c.in_ok-hear.ensures.list stands next bytes

pub returns-clause-token : goal.returns-clause-token
returns-clause-token c = c.token_sighted.ensures ∙ ap token_sighted c.sight-sight.ensures ∙ posted_token (option_map (λ (t : Token). t.0) c.args.heard) c.args.entry.now

pub returns-clause-stands : goal.returns-clause-stands
returns-clause-stands c = λ past stands next bytes.
    let v : ProvenanceIndex = record {
      addresses = c.note-7.new.self;
      nodes = c.note-6.new.self;
      names = c.note.new.self;
      heard = c.note-5.new.self;
      early = c.note-2.new.self;
      made = c.note-4.new.self;
      updates = c.note-3.new.self;
    } in
    let is : Noted c.args.self.now v c.sight-sight.result c.args.entry.now = record {
      names = c.in_ok-note.ensures;
      early = c.in_ok-note-2.ensures;
      keys = λ look are.
          subst (λ (n : ℕ). AreOf c.note-3.new.self (look_step n (update_posted (sight_of c.sight-sight.result)) look)) c.len.ensures (c.in_ok-note-3.ensures.keys look are);
      numbers = λ look are k.
          subst (λ (n : ℕ). update_at c.note-3.new.self k ≡ at_step n (update_posted (sight_of c.sight-sight.result)) look (update_at c.args.self.now.updates) k) c.len.ensures
          (c.in_ok-note-3.ensures.numbers look are k);
      made = c.in_ok-note-4.ensures;
      heard = c.in_ok-note-5.ensures.known;
      list = c.in_ok-note-5.ensures.list;
      nodes = c.in_ok-note-6.ensures;
      addresses = c.in_ok-note-7.ensures;
    } in
    stands_more c.args.self.now v past c.args.entry.now c.sight-sight.result _ stands next bytes c.sight-sight.ensures is
