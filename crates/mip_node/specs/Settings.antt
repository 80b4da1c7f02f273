-- What a node is run with, as contracts see it.
use Rattle.mip_config.specs.Configs.{Content, content}
use Rattle.mip_node.specs.declared.setting.Setting.{Setting}

abbrev pub said : Setting → Content
said s = content s.config.now
