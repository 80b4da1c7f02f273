-- What each line that stands in a configuration made of the draft, and what it owed to the lines before it.
use Rattle.std.proofs.Common.{◌≡◌, ℕ, List, [], ◌∷◌, ◌++◌, length, Bool, true, false, cond, refl}
use Rattle.std.specs.Prelude.{Some, Result, Ok, Err, nat_le}
use Rattle.std.specs.List.{list_any}
use Rattle.mip_words.specs.declared.address.Address.{Address}
use Rattle.mip_words.proofs.StepLaws.{bind_ok, ok_is}
use Rattle.mip_symbols.specs.declared.reason.Reason.{Reason}
use Rattle.mip_symbols.specs.declared.reason.Reason.TheVariants as reasons
use Rattle.mip_frames.specs.declared.route.Route.{Route}
use Rattle.mip_schedule.specs.EventTimes.{is_reserved}
use Rattle.mip_config.specs.Facts.{address_of}
use Rattle.mip_config.specs.Rows.{route_row, default_row, role_row, serve_row, payload_row}
use Rattle.mip_config.specs.Drafts.{is_open, is_agent, is_host, is_undecided, refuse, route_onto, default_onto, is_anycast, role_onto, is_same, serve_judged, serve_onto, payload_judged, payload_onto}
use Rattle.mip_config.specs.declared.config_draft.ConfigDraft.{ConfigDraft}
use Rattle.mip_config.specs.declared.payload.Payload.{Payload}
use Rattle.mip_config.specs.declared.role.Role.{Role}

-- an `Ok` behind a test
passed : {A : Type 0} (b : Bool) (r : Result A Reason) (why : Reason) (x : A) → cond b r (Err why) ≡ Ok x → (b ≡ true) × (r ≡ Ok x)
passed true r why x e = (refl, e)
passed false r why x e = absurd cc

-- an `Ok` behind a refusal
pub unrefused : {A : Type 0} (b : Bool) (why : Reason) (r : Result A Reason) (x : A) → cond b (Err why) r ≡ Ok x → (b ≡ false) × (r ≡ Ok x)
unrefused true why r x e = absurd cc
unrefused false why r x e = (refl, e)

pub record IsRouteLine (d : ConfigDraft) (fields : List (List ℕ)) (e : ConfigDraft) : Type 0 where
  pub route : Route
  pub read : route_row fields ≡ Ok route
  pub in_time : is_open d.fallback d.role ≡ true
  pub few : nat_le 64 (length d.routes) ≡ false
  pub is : record d { routes = d.routes ++ route ∷ [] } ≡ e

pub route_line : (d : ConfigDraft) (fields : List (List ℕ)) (e : ConfigDraft) → route_onto d fields ≡ Ok e → IsRouteLine d fields e
unfolding route_onto
route_line d fields e is =
    let r = passed (is_open d.fallback d.role) _ reasons.Form e is in
    let x = bind_ok (route_row fields) (λ route. refuse (nat_le 64 (length d.routes)) reasons.Limit (record d { routes = d.routes ++ route ∷ [] })) e r.1 in
    let more : ConfigDraft = record d { routes = d.routes ++ x.0 ∷ [] } in
    let y = unrefused (nat_le 64 (length d.routes)) reasons.Limit (Ok more) e x.2 in
    record { route = x.0; read = x.1; in_time = r.0; few = y.0; is = ok_is more e y.1 }

pub record IsDefaultLine (d : ConfigDraft) (fields : List (List ℕ)) (e : ConfigDraft) : Type 0 where
  pub port : ℕ
  pub read : default_row fields ≡ Ok port
  pub in_time : is_open d.fallback d.role ≡ true
  pub is : record d { fallback = Some port } ≡ e

pub default_line : (d : ConfigDraft) (fields : List (List ℕ)) (e : ConfigDraft) → default_onto d fields ≡ Ok e → IsDefaultLine d fields e
unfolding default_onto
default_line d fields e is =
    let r = passed (is_open d.fallback d.role) _ reasons.Form e is in
    let x = bind_ok (default_row fields) (λ port. Ok (record d { fallback = Some port })) e r.1 in
    record { port = x.0; read = x.1; in_time = r.0; is = ok_is (record d { fallback = Some x.0 }) e x.2 }

pub record IsRoleLine (d : ConfigDraft) (word : List ℕ) (fields : List (List ℕ)) (e : ConfigDraft) : Type 0 where
  pub role : Role
  pub read : role_row word fields ≡ Ok role
  pub in_time : is_undecided d.role ≡ true
  pub own : is_anycast (address_of role) ≡ false
  pub is : record d { role = Some role } ≡ e

pub role_line : (d : ConfigDraft) (word : List ℕ) (fields : List (List ℕ)) (e : ConfigDraft) → role_onto d word fields ≡ Ok e → IsRoleLine d word fields e
unfolding role_onto
role_line d word fields e is =
    let r = passed (is_undecided d.role) _ reasons.Form e is in
    let x = bind_ok (role_row word fields) (λ role. refuse (is_anycast (address_of role)) reasons.Clash (record d { role = Some role })) e r.1 in
    let more : ConfigDraft = record d { role = Some x.0 } in
    let y = unrefused (is_anycast (address_of x.0)) reasons.Clash (Ok more) e x.2 in
    record { role = x.0; read = x.1; in_time = r.0; own = y.0; is = ok_is more e y.1 }

pub record IsServeLine (d : ConfigDraft) (fields : List (List ℕ)) (e : ConfigDraft) : Type 0 where
  pub home : Address
  pub read : serve_row fields ≡ Ok home
  pub in_time : is_agent d.role ≡ true
  pub few : nat_le 8 (length d.serves) ≡ false
  pub new : list_any (is_same home) d.serves ≡ false
  pub is : record d { serves = d.serves ++ home ∷ [] } ≡ e

pub serve_line : (d : ConfigDraft) (fields : List (List ℕ)) (e : ConfigDraft) → serve_onto d fields ≡ Ok e → IsServeLine d fields e
unfolding serve_onto
serve_line d fields e is =
    let r = passed (is_agent d.role) _ reasons.Form e is in
    let x = bind_ok (serve_row fields) (serve_judged d) e r.1 in
    let more : ConfigDraft = record d { serves = d.serves ++ x.0 ∷ [] } in
    let y = unrefused (nat_le 8 (length d.serves)) reasons.Limit (refuse (list_any (is_same x.0) d.serves) reasons.Clash more) e x.2 in
    let z = unrefused (list_any (is_same x.0) d.serves) reasons.Clash (Ok more) e y.1 in
    record { home = x.0; read = x.1; in_time = r.0; few = y.0; new = z.0; is = ok_is more e z.1 }

pub record IsPayloadLine (d : ConfigDraft) (fields : List (List ℕ)) (e : ConfigDraft) : Type 0 where
  pub payload : Payload
  pub read : payload_row fields ≡ Ok payload
  pub in_time : is_host d.role ≡ true
  pub few : nat_le 1000 (length d.payloads) ≡ false
  pub free : is_reserved payload.proto ≡ false
  pub is : record d { payloads = d.payloads ++ payload ∷ [] } ≡ e

pub payload_line : (d : ConfigDraft) (fields : List (List ℕ)) (e : ConfigDraft) → payload_onto d fields ≡ Ok e → IsPayloadLine d fields e
unfolding payload_onto
payload_line d fields e is =
    let r = passed (is_host d.role) _ reasons.Form e is in
    let x = bind_ok (payload_row fields) (payload_judged d) e r.1 in
    let more : ConfigDraft = record d { payloads = d.payloads ++ x.0 ∷ [] } in
    let y = unrefused (nat_le 1000 (length d.payloads)) reasons.Limit (refuse (is_reserved x.0.proto) reasons.Number more) e x.2 in
    let z = unrefused (is_reserved x.0.proto) reasons.Number (Ok more) e y.1 in
    record { payload = x.0; read = x.1; in_time = r.0; few = y.0; free = z.0; is = ok_is more e z.1 }
