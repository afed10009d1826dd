use Rattle.std.proofs.lemmas.Result.{IfOk-weaker}
use Rattle.acc_commands_inputs.specs.Notes.{help_lines, help_text}
use Rattle.acc_commands_inputs.proofs.notes.help_text.Goals as goal

pub returns : goal.returns
unfolding help_text help_lines
returns c = IfOk-weaker c.to_vec.result _ _ (λ text same. same (λ x y is. is)) c.to_vec.ensures.items_if_clones_equal
