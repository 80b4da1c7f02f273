-- The configuration of a hub in memory, seen as what it holds.
use Rattle.mip_hub.specs.Reading.{Content}
use Rattle.mip_hub.specs.declared.hub_config.HubConfig.{HubConfig}
use Rattle.mip_hub.specs.declared.hub_reading.Parts.{Parts}

abbrev pub content : HubConfig → Content
content c = record { port = c.port; lines = c.lines }

abbrev pub parts_content : Parts → Content
parts_content c = record { port = c.port; lines = c.lines }
