use Rattle.std.proofs.Common.{rules}
use Rattle.acc_commands_inputs.proofs.FilesLemmas.{AreFiles-more, after_files-more, IsFirstRefused-here}
use Rattle.acc_commands_inputs.proofs.files.read_all.Goals as goal

pub returns-in-Err-clause-refused : goal.returns-in-Err-clause-refused
returns-in-Err-clause-refused g c =
    rw c.as_str-name.ensures.value (IsFirstRefused-here _ _ c.args.names.now c.loop-name.files.items c.loop-name.name-index
    c.name-item.result c.in-Err.error _ _ _
    c.loop-name.invariant.held c.loop-name.invariant.counted c.in-Err.ensures.counted (search rules) c.name-item.is
    c.loop-name.invariant.files
    (rw c.as_str-name.ensures.value at c.in-Err.ensures.read))

pub returns-then-is_err-clause-refused : goal.returns-then-is_err-clause-refused
returns-then-is_err-clause-refused g c =
    rw c.as_str-name.ensures.value (IsFirstRefused-here _ (g.H.Shelf.held c.loop-name.shelf) c.args.names.now c.loop-name.files.items
    c.loop-name.name-index c.name-item.result _ _ _ _
    c.loop-name.invariant.held c.loop-name.invariant.counted c.in-Ok.ensures.counted (search rules) c.name-item.is
    c.loop-name.invariant.files tt)

pub loop-name-preserved : goal.loop-name-preserved
loop-name-preserved g c = record {
  count = search rules;
  held = search rules;
  counted = after_files-more c.loop-name.name-index _ _ _ c.loop-name.invariant.counted c.in-Ok.ensures.counted;
  given = search rules;
  files = AreFiles-more _ _ c.args.names.now c.loop-name.files.items _ c.loop-name.name-index c.name-item.result c.in-Ok.file
      c.loop-name.invariant.held (search rules) c.name-item.is (search rules) c.loop-name.invariant.files
      (rw c.as_str-name.ensures.value at c.in-Ok.ensures.read);
}
