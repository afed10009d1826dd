use Rattle.std.proofs.Common.{◌+◌, length, string_bytes}
use Rattle.acc_commands_inputs.specs.Words.{verb_of, file_count, point_count}
use Rattle.acc_commands_inputs.proofs.FileNames.{slice_is}
use Rattle.acc_commands_inputs.proofs.files.points_in.Goals as goal

pub returns-clause-names : goal.returns-clause-names
returns-clause-names c =
    let command = c.args.command in
    slice_is string_bytes c.args.words.now (length (verb_of command) + file_count command) (point_count command)
    (c.verb_count.result + c.file_count.result) c.point_count.result (λ i. c.verb_count.ensures i + c.file_count.ensures i)
    c.point_count.ensures
