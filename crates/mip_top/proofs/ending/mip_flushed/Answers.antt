use Rattle.std.proofs.Common.{refl, map, string_bytes}
use Rattle.mip_commands.specs.Commands.{command_of}
use Rattle.mip_top.proofs.EndingLaws.{if_left, obeyed_flushed, says, front}
use Rattle.mip_top.proofs.Endings.{ends_flushed}
use Rattle.mip_top.proofs.ending.mip_flushed.Goals as goal

pub returns-clause-obeyed : goal.returns-clause-obeyed
returns-clause-obeyed g c =
    if_left _ _ (g.S.Source.left c.args.source.now)
    (λ bytes. obeyed_flushed (command_of (map string_bytes c.args.words.now)) bytes c.mip-status.result.0 c.finish.result.0 _ _ _ _ _ _ _ _ c.finish.ensures.held c.finish.ensures.flushed)
    c.mip-status.ensures.obeyed

pub returns-clause-obeyed_of_some : goal.returns-clause-obeyed_of_some
returns-clause-obeyed_of_some g c =
    let o = c.mip-status.ensures.obeyed_of_some in (
      o.0,
      o.2,
      obeyed_flushed (command_of (map string_bytes c.args.words.now)) o.0 c.mip-status.result.0 c.finish.result.0 _ _ _ _ _ _ _ _ c.finish.ensures.held c.finish.ensures.flushed o.3,
    )

pub returns-clause-whole : goal.returns-clause-whole
returns-clause-whole g c =
    if_left _ _ (g.S.Source.left c.args.source.now)
    (λ bytes obeys. says (command_of (map string_bytes c.args.words.now)) bytes c.mip-status.result.0 c.finish.result.0 c.args.sink.now c.mip-status.new.sink c.finish.new.sink _ _ refl refl c.requires
    (record { held = c.finish.ensures.held; conclusive = c.finish.ensures.conclusive }) obeys)
    c.mip-status.ensures.obeyed

pub returns-clause-whole_of_some : goal.returns-clause-whole_of_some
returns-clause-whole_of_some g c = λ sure.
    let o = c.mip-status.ensures.obeyed_of_some in (
      o.0,
      o.2,
      says (command_of (map string_bytes c.args.words.now)) o.0 c.mip-status.result.0 c.finish.result.0 c.args.sink.now c.mip-status.new.sink c.finish.new.sink _ _ refl refl c.requires
          (record { held = c.finish.ensures.held; conclusive = c.finish.ensures.conclusive }) o.3 sure,
    )

pub returns-clause-front : goal.returns-clause-front
returns-clause-front g c =
    let o = c.mip-status.ensures.obeyed_of_some in (
      o.0,
      o.2,
      front (command_of (map string_bytes c.args.words.now)) o.0 c.mip-status.result.0 c.finish.result.0 c.args.sink.now c.mip-status.new.sink c.finish.new.sink _ _ refl refl c.requires
          (record { held = c.finish.ensures.held; conclusive = c.finish.ensures.conclusive }) o.3,
    )

pub returns-clause-ends : goal.returns-clause-ends
returns-clause-ends g c =
    ends_flushed (command_of (map string_bytes c.args.words.now)) c.mip-status.result.0 c.finish.result.0 _ _ _ _ _ _ _ _ _ _ _ c.mip-status.ensures.ends c.finish.ensures.held c.finish.ensures.statuses
    c.finish.ensures.no_fewer c.finish.ensures.cause
