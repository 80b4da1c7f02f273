use Rattle.std.proofs.Common.{◌<◌, ◌≤◌, length, rules}
use Rattle.mip_lines.specs.Cutting.{texts}
use Rattle.mip_rows.specs.Rows.{values_of}
use Rattle.mip_rows.proofs.ReadingLaws.{values_refused, values_more, values_end, counted}
use Rattle.mip_rows.proofs.row_reading.read_values.Goals as goal

pub returns-in-Err : goal.returns-in-Err
returns-in-Err c =
    let inside : c.loop-place.place < length c.args.form.kinds.now = search rules in
    values_refused c.args.ds.now c.args.form.kinds.now c.args.row.now c.loop-place.place _ _ c.loop-place.values c.in-Err.why (values_of c.args.ds.now c.args.form.kinds.now (texts c.args.row.now))
    c.loop-place.invariant.so_far inside c.requires c.in-Err.ensures

pub loop-place-preserved : goal.loop-place-preserved
loop-place-preserved c =
    let inside : c.loop-place.place < length c.args.form.kinds.now = search rules in
    record {
      so_far = values_more c.args.ds.now c.args.form.kinds.now c.args.row.now c.loop-place.place _ _ c.loop-place.values c.in-Ok.value c.push.new.self (values_of c.args.ds.now c.args.form.kinds.now (texts c.args.row.now))
          c.loop-place.invariant.so_far inside c.requires c.in-Ok.ensures c.push.ensures;
      count = counted c.loop-place.values c.in-Ok.value c.push.new.self c.loop-place.place c.push.ensures c.loop-place.invariant.count;
    }

pub returns : goal.returns
returns c =
    let past : length c.args.form.kinds.now ≤ c.loop-place.place = search rules in
    values_end c.args.ds.now c.args.form.kinds.now c.args.row.now c.loop-place.place c.loop-place.values (values_of c.args.ds.now c.args.form.kinds.now (texts c.args.row.now)) c.loop-place.invariant.so_far past c.requires
