-- What a packet that is put asks of the link, and calls behind those that were granted.
use Rattle.std.proofs.Common.{◌≡◌, List, [], ◌∷◌, ◌++◌, refl, subst, inl, inr}
use Rattle.std.specs.Prelude.{◌⊎◌, Some}
use Rattle.mip_outside.specs.LinkCalls.{called, granted, are_of_turns, Granted, Refused, EndsAtFault}
use Rattle.mip_outside.specs.declared.asked.Asked.TheVariants.{Send, Listen}
use Rattle.mip_outside.specs.declared.link_call.LinkCall.{LinkCall}
use Rattle.mip_outside.specs.declared.put.Put.{Put}
use Rattle.mip_outside.specs.declared.put.Put.TheVariants.{Sent, NoRoute, Oversize}
use Rattle.mip_outside.specs.declared.put_fault.PutFault.TheVariants.{Failed, Memory}
use Rattle.mip_outside.proofs.Calling.{granted_none, granted_on, refused_on, send_refused}
use Rattle.mip_frames.specs.Calling.{listening, EndsRun}
use Rattle.mip_node.specs.CallingLaws.{EndsTurns}
use Rattle.mip_frames.specs.Sending.{asked_by}

-- a packet was put on the wire
pub put_granted : (put : Put) (a b : List LinkCall) → b ≡ a ++ granted (asked_by put) → Granted a b
unfolding are_of_turns
put_granted Sent a b e = record { asked = Send ∷ []; turns = refl; is = e }
put_granted NoRoute a b e = record { asked = []; turns = refl; is = e }
put_granted Oversize a b e = record { asked = []; turns = refl; is = e }

-- memory ran out at a packet
pub put_lost : (a b : List LinkCall) → (b ≡ a) ⊎ (b ≡ a ++ called Send (Some Memory) ∷ []) → Granted a b ⊎ Refused Memory a b
put_lost a b (inl same) = inl (granted_none a b same)
put_lost a b (inr lost) = inr (send_refused Memory a b lost)

-- memory ran out behind calls that were granted
pub lost_on : (a b d : List LinkCall) → Granted a b → Granted b d ⊎ Refused Memory b d → Granted a d ⊎ Refused Memory a d
lost_on a b d first (inl granted) = inl (granted_on a b d first granted)
lost_on a b d first (inr refused) = inr (refused_on Memory a b d first refused)

-- calls of a turn, then others
pub ends_on : {ok failed memory : Type 0} (a b d : List LinkCall) → Granted a b → EndsAtFault ok failed memory b d → EndsAtFault ok failed memory a d
ends_on a b d first next = record {
  whole = λ e. granted_on a b d first (next.whole e);
  cut = λ e. refused_on Failed a b d first (next.cut e);
  lost = λ e. lost_on a b d first (next.lost e);
}

pub turns_on : {done write_failed link_failed memory : Type 0} (a b d : List LinkCall) → Granted a b → EndsTurns done write_failed link_failed memory b d
    → EndsTurns done write_failed link_failed memory a d
turns_on a b d first next = record {
  whole = λ e. granted_on a b d first (next.whole e);
  unwritten = λ e. granted_on a b d first (next.unwritten e);
  cut = λ e. refused_on Failed a b d first (next.cut e);
  lost = λ e. lost_on a b d first (next.lost e);
}

-- a port was listened on, then came turns
pub run_on : {done write_failed link_failed memory : Type 0} (a b d : List LinkCall) → b ≡ listening a → EndsTurns done write_failed link_failed memory b d
    → EndsRun done write_failed link_failed memory a d
run_on a b d listens next = record {
  whole = λ e. from (next.whole e);
  unwritten = λ e. from (next.unwritten e);
  cut = λ e. inr (subst (λ (m : List LinkCall). Refused Failed m d) listens (next.cut e));
  lost = λ e. inr (subst (λ (m : List LinkCall). Granted m d ⊎ Refused Memory m d) listens (next.lost e));
}
  where
    from : Granted b d → Granted (listening a) d
    from granted = subst (λ (m : List LinkCall). Granted m d) listens granted

-- the port could not be listened on, and that ended the run by no other fault
pub run_refused : {done write_failed link_failed memory : Type 0} (a b : List LinkCall) → b ≡ a ++ called Listen (Some Failed) ∷ []
    → (done → ⊥) → (write_failed → ⊥) → (memory → ⊥) → EndsRun done write_failed link_failed memory a b
run_refused a b refused not_done not_written not_lost = record {
  whole = λ e. absurd (not_done e);
  unwritten = λ e. absurd (not_written e);
  cut = λ e. inl refused;
  lost = λ e. absurd (not_lost e);
}
