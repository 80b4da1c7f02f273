-- What a text is read as: a configuration, or its first bad line and why.
use Rattle.std.specs.Prelude.{ℕ, List, Option, Some, None, Result, Ok, codes}
use Rattle.mip_words.specs.Steps.{◌>>=◌}
use Rattle.mip_words.specs.declared.ids.NodeId.{NodeId}
use Rattle.mip_lines.specs.Cutting.{rows_of}
use Rattle.mip_symbols.specs.Kinds as kinds
use Rattle.mip_schedule.specs.Faults.{Wrong}
use Rattle.mip_schedule.specs.Reading.{bad_form, head_line, version_line, seed_line}
use Rattle.mip_drafts.specs.Walk.{Walked, walk}
use Rattle.mip_config.specs.Contents.{Content}
use Rattle.mip_config.specs.Drafts.{nothing, line_onto}
use Rattle.mip_config.specs.Rows.{port}
use Rattle.mip_config.specs.declared.config_draft.ConfigDraft.{ConfigDraft}
use Rattle.mip_config.specs.declared.role.Role.{Role}

unfoldable pub self_line : List (List (List ℕ)) → Result (ℕ × List (List (List ℕ))) Wrong
self_line rows = head_line (codes "self") (kinds.number 0 31) 3 rows

unfoldable pub port_line : ℕ → List (List (List ℕ)) → Result (ℕ × List (List (List ℕ))) Wrong
port_line n rows = head_line (codes "port") port n rows

-- the first four lines: the version, the seed, the number of the node and its port
pub record Head : Type 0 where
  pub seed : List ℕ
  pub node : NodeId
  pub port : ℕ
  pub rows : List (List (List ℕ))

unfoldable pub head_of : List (List (List ℕ)) → Result Head Wrong
head_of rows = do
  version ← version_line 1 rows
  seed ← seed_line version.1
  node ← self_line seed.1
  port ← port_line 4 node.1
  Ok (record { seed = seed.0; node = record { 0 = node.0 }; port = port.0; rows = port.1 })

-- the configuration with this role; without one its line is missing
abbrev pub configured : Head → Walked ConfigDraft → Option Role → Result Content Wrong
configured head walked None = bad_form walked.line
configured head walked (Some role) = Ok (record {
  seed = head.seed;
  node = head.node;
  port = head.port;
  routes = walked.draft.routes;
  fallback = walked.draft.fallback;
  role = role;
  serves = walked.draft.serves;
  payloads = walked.draft.payloads;
})

-- what a text is read as
unfoldable pub reading : List ℕ → Result Content Wrong
reading text = do
  head ← head_of (rows_of text)
  walked ← walk line_onto nothing 5 head.rows
  configured head walked walked.draft.role
