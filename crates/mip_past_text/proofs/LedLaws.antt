-- The text of a node that is led along, from that of the mobile that is found.
use Rattle.std.proofs.Common.{◌≡◌, ℕ, List, Option, Some, None, option_map}
use Rattle.mip_rules_mobile.specs.Known.{Known}
use Rattle.mip_past_led.specs.Leading.{ShownMobile, shown_of}
use Rattle.mip_past_text.specs.Led.{mobile_lines, led_text}

-- what is so of the text of each mobile that shows what is found, is so of the node's
pub text_of_found : (node : List ℕ) (o : Option Known) (m : ShownMobile) (T : List ℕ → Type 0) → Some m ≡ option_map shown_of o
    → ((k : Known) → shown_of k ≡ m → T (mobile_lines node k)) → T (led_text node o)
text_of_found node None m T is from = absurd cc
text_of_found node (Some k) m T is from = from k cc
