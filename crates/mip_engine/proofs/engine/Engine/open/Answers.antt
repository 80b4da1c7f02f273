use Rattle.std.proofs.Common.{◌≡◌, ℕ, List, length, map, sym, ap, ◌∙◌, subst, arith}
use Rattle.mip_words.specs.declared.prefix.Prefix.{Prefix}
use Rattle.mip_symbols.specs.Places.{AreFew}
use Rattle.mip_schedule.specs.Schedules.{content}
use Rattle.mip_schedule.specs.Versions.{numbers_of_version}
use Rattle.mip_symbols.specs.declared.declaration.Declaration.{Declaration}
use Rattle.mip_history.specs.Setup.{Host, setup_of, links_in, hosts_in, outsiders_in}
use Rattle.mip_engine.specs.Engines.{EngineSeen, new_engine}
use Rattle.mip_engine.specs.Joining.{ArePlaced}
use Rattle.mip_engine.proofs.JoinLaws.{is_new, links_few, nodes_placed}
use Rattle.mip_engine.proofs.engine.Engine.open.Goals as goal

pub outsiders_in-requires : goal.outsiders_in-requires
outsiders_in-requires c = subst (λ (ds : List Declaration). AreFew ds) (sym c.as_slice-ds.ensures) c.few.ensures

pub new-requires-clause-few : goal.new-requires-clause-few
new-requires-clause-few c =
    let ds = c.as_slice-ds.ensures in
    let few = links_few c.in_ok-links.links.items c.args.schedule.now.declarations (c.in_ok-links.ensures ∙ ap links_in ds) c.few.ensures in
    omega (arith, few, ap (λ (l : List Prefix). length l) c.as_slice.ensures.value)

pub join_all-requires : goal.join_all-requires
join_all-requires c =
    let s = content c.args.schedule.now in
    let ds = c.as_slice-ds.ensures in
    let hosts : hosts_in s.declarations ≡ c.in_ok-hosts.hosts.items = sym (c.in_ok-hosts.ensures ∙ ap hosts_in ds) in
    let links : links_in s.declarations ≡ c.in_ok-engine.engine.net.links =
    sym (ap (λ (e : EngineSeen). e.net.links) c.in_ok-engine.ensures ∙ ap (λ (l : List Prefix). map (λ (p : Prefix). p.0) l) c.as_slice.ensures.value ∙ c.in_ok-links.ensures ∙ ap links_in ds) in
    record {
      placed = subst (λ (l : List ℕ). ArePlaced l c.in_ok-hosts.hosts.items) links
          (subst (λ (hs : List Host). ArePlaced (links_in s.declarations) hs) hosts (nodes_placed s c.lawful.ensures c.few.ensures));
      new = is_new c.in_ok-engine.engine s.seed s.start.0 (map (λ (p : Prefix). p.0) c.as_slice.result.now) c.outsiders_in.result (numbers_of_version s.version) c.in_ok-engine.ensures;
    }

pub returns-clause-stands : goal.returns-clause-stands
returns-clause-stands c =
    let s = setup_of (content c.args.schedule.now) in
    let ds = c.as_slice-ds.ensures in
    let hosts : s.hosts ≡ c.in_ok-hosts.hosts.items = sym (c.in_ok-hosts.ensures ∙ ap hosts_in ds) in
    let links : map (λ (p : Prefix). p.0) c.as_slice.result.now ≡ s.links =
    ap (λ (l : List Prefix). map (λ (p : Prefix). p.0) l) c.as_slice.ensures.value ∙ c.in_ok-links.ensures ∙ ap links_in ds in
    let outsiders : c.outsiders_in.result ≡ s.outsiders = c.outsiders_in.ensures ∙ ap outsiders_in ds in
    c.in_ok-join_all.ensures.stands s hosts
    (c.in_ok-engine.ensures
    ∙ ap (λ (l : List ℕ). new_engine s.seed s.start l c.outsiders_in.result s.numbers) links
    ∙ ap (λ (n : ℕ). new_engine s.seed s.start s.links n s.numbers) outsiders)
