-- Who judges an update, over what is kept of its home.
use Rattle.mip_rules_correspondent.specs.Verdicts.{Bench}
use Rattle.mip_afresh_rules.specs.declared.who.Who.{Who}

abbrev pub bench_at : Who → Bench
bench_at w = record {
  own = w.me.now.own;
  secrets = w.me.now.secrets;
  now = w.at.moment.0;
  floor = w.kept.floor;
  full = w.kept.is_full;
  numbers = w.kept.numbers;
}
