-- A home agent as it advertises itself.
use Rattle.mip_history.specs.Advertising as advertising
use Rattle.mip_afresh_nodes.specs.declared.router.Router.{Router}

abbrev pub router_seen : Router → advertising.Router
router_seen r = record { address = r.address; preference = r.preference; life = r.life }
