-- What a turn shows as a call goes on.
use Rattle.std.proofs.Common.{◌≡◌, ℕ, ◌+◌, ◌<◌, zero, suc, List, [], ◌∷◌, length, take, get_or, refl, sym, ap, subst, ◌∙◌, arith}
use Rattle.mip_words.specs.declared.address.Address.{Address}
use Rattle.mip_ipv6.specs.Reading.{packet_of}
use Rattle.mip_rules_agent.specs.declared.ending.Ending.{Ending}
use Rattle.mip_rules_agent.specs.declared.home_row.HomeRow.{HomeRow}
use Rattle.mip_rules_agent.specs.declared.identity.Identity.{Identity}
use Rattle.mip_rules_agent.specs.Known.{Known}
use Rattle.mip_rules_agent.specs.Calls as calls
use Rattle.mip_rules_agent.specs.Steps.{Called, Sends, Releases, Rang}
use Rattle.mip_rules_agent.specs.Questions.{due_ends, rows_at, valid_at, preferred_at}
use Rattle.mip_rules_agent.specs.Transitions.{Transition, begun, noted}
use Rattle.mip_rules_agent.specs.Messages.{shield_to, prefix_packet}
use Rattle.mip_rules_agent.specs.Rules.{Handing, advertises, receives}
use Rattle.mip_rules_agent.specs.Doing.{takes, releases_all, ticks, advertises_all, plans, does, transition_of}
use Rattle.mip_afresh_agent.specs.declared.turn.Turn.{Turn}
use Rattle.mip_afresh_agent.specs.declared.handed.Handed.{Handed}
use Rattle.mip_afresh_agent.specs.Turns.{Shows, handing_in}
use Rattle.mip_afresh_agent.proofs.ShowingLaws.{shown_now, shown_known}

releases_more : (es : List Ending) (i : ℕ) (d : Ending) (t : Transition) → i < length es
    → releases_all (take (i + 1) es) t ≡ noted (Releases (get_or es i d).home) (releases_all (take i es) t)
releases_more [] i d t inside = absurd (omega (arith, inside))
releases_more (e ∷ es) zero d t inside = refl
releases_more (e ∷ es) (suc i) d t inside =
    let same : suc i + 1 ≡ suc (i + 1) = omega arith in
    ap (λ n. releases_all (take n (e ∷ es)) t) same ∙ releases_more es i d (noted (Releases e.home) t) (omega (arith, inside))

-- one end more is given up
pub release_more : (es : List Ending) (i : ℕ) (d : Ending) (t : Transition) (turn : Turn) → i < length es
    → Shows turn (noted (Releases (get_or es i d).home) (releases_all (take i es) t)) → Shows turn (releases_all (take (i + 1) es) t)
release_more es i d t turn inside shows = subst (λ (u : Transition). Shows turn u) (sym (releases_more es i d t inside)) shows

advertises_more : (own : Address) (k : Known) (now : ℕ) (rows : List HomeRow) (i : ℕ) (d : HomeRow) (t : Transition) → i < length rows
    → advertises_all own k now (take (i + 1) rows) t ≡ advertises own k now (get_or rows i d).home (get_or rows i d).careof 0 (advertises_all own k now (take i rows) t)
advertises_more own k now [] i d t inside = absurd (omega (arith, inside))
advertises_more own k now (r ∷ rows) zero d t inside = refl
advertises_more own k now (r ∷ rows) (suc i) d t inside =
    let same : suc i + 1 ≡ suc (i + 1) = omega arith in
    ap (λ n. advertises_all own k now (take n (r ∷ rows)) t) same ∙ advertises_more own k now rows i d (advertises own k now r.home r.careof 0 t) (omega (arith, inside))

-- one home more is told
pub tell_more : (own : Address) (k : Known) (now : ℕ) (rows : List HomeRow) (i : ℕ) (d : HomeRow) (t : Transition) (turn : Turn) (valid preferred : ℕ)
    → valid ≡ valid_at k now → preferred ≡ preferred_at k now → i < length rows
    → Shows turn (noted (Sends (shield_to own (get_or rows i d).home) (prefix_packet own (get_or rows i d).home (get_or rows i d).careof 0 valid preferred)) (advertises_all own k now (take i rows) t))
    → Shows turn (advertises_all own k now (take (i + 1) rows) t)
unfolding advertises
tell_more own k now rows i d t turn valid preferred valid_is preferred_is inside shows =
    let r : HomeRow = get_or rows i d in
    let u = advertises_all own k now (take i rows) t in
    subst (λ (v : Transition). Shows turn v)
    (ap (λ (n : ℕ). noted (Sends (shield_to own r.home) (prefix_packet own r.home r.careof 0 n preferred)) u) valid_is
    ∙ ap (λ (n : ℕ). noted (Sends (shield_to own r.home) (prefix_packet own r.home r.careof 0 (valid_at k now) n)) u) preferred_is
    ∙ sym (advertises_more own k now rows i d t inside))
    shows

-- by what is known in a turn
pub plans_here : (me : Identity) (turn : Turn) (rows : List HomeRow) (t : Transition) → Shows turn t → rows ≡ rows_at turn.moment.0 turn.known.homes
    → advertises_all me.own turn.known turn.moment.0 rows t ≡ plans me t
unfolding plans
plans_here me turn rows t shows is =
    ap (λ (rs : List HomeRow). advertises_all me.own turn.known turn.moment.0 rs t) is
    ∙ ap (λ (k : Known). advertises_all me.own k turn.moment.0 (rows_at turn.moment.0 k.homes) t) (sym (shown_known turn t shows))
    ∙ ap (λ (n : ℕ). advertises_all me.own t.known n (rows_at n t.known.homes) t) (sym (shown_now turn t shows))

pub ticks_here : (turn : Turn) (due : List Ending) (t : Transition) → Shows turn t → due ≡ due_ends turn.moment.0 turn.known.ends → noted Rang (releases_all due t) ≡ ticks t
unfolding ticks
ticks_here turn due t shows is =
    ap (λ (es : List Ending). noted Rang (releases_all es t)) is
    ∙ ap (λ (k : Known). noted Rang (releases_all (due_ends turn.moment.0 k.ends) t)) (sym (shown_known turn t shows))
    ∙ ap (λ (n : ℕ). noted Rang (releases_all (due_ends n t.known.ends) t)) (sym (shown_now turn t shows))

-- a packet is handed over
pub take_here : (h : Handed) (k : Known) (now : ℕ) (turn new : Turn)
    → Shows turn (noted (Called (calls.Take h.number h.shield h.bytes.now h.claim)) (begun now k))
    → Shows new (receives (handing_in h turn) (packet_of h.bytes.now) (noted (Called (calls.Take h.number h.shield h.bytes.now h.claim)) (begun now k)))
    → Shows new (transition_of h.me.now k now (calls.Take h.number h.shield h.bytes.now h.claim))
unfolding does takes
take_here h k now turn new before shows =
    let t : Transition = noted (Called (calls.Take h.number h.shield h.bytes.now h.claim)) (begun now k) in
    let with = λ (n : ℕ) (l : Known). (let g : Handing = record { me = h.me.now; now = n; known = l; number = h.number; shield = h.shield; bytes = h.bytes.now; claim = h.claim } in g) in
    subst (λ (g : Handing). Shows new (receives g (packet_of h.bytes.now) t))
    (ap (λ (n : ℕ). with n turn.known) (sym (shown_now turn t before)) ∙ ap (λ (l : Known). with t.now l) (sym (shown_known turn t before)))
    shows
