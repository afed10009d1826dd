use Rattle.std.proofs.Common.{◌∙◌, sym, ap, rules}
use Rattle.std.specs.Prelude.{option_map}
use Rattle.acc_commands_inputs.specs.declared.words.Command.TheVariants.{Follow}
use Rattle.acc_commands_inputs.specs.declared.words.TheConstants.{MOST_PIECE}
use Rattle.acc_commands_inputs.specs.Words.{file_count, point_count, number_of}
use Rattle.acc_commands_inputs.proofs.Workers.{last_word}
use Rattle.acc_commands_inputs.proofs.words.with_pieces.Goals as goal

pub returns-in_err-number_of-clause-command : goal.returns-in_err-number_of-clause-command
returns-in_err-number_of-clause-command c =
    let last = last_word Follow 1 MOST_PIECE c.args.words.now c.size-item.result (search rules) c.size-item.is in
    c.from_residual.ensures
    ∙ sym (last ∙ ap (option_map Follow)
    (ap (number_of 1 MOST_PIECE) (sym c.as_str.ensures.value) ∙ sym c.number_of.ensures.value ∙ c.in_err-number_of.was))

pub returns-clause-command : goal.returns-clause-command
returns-clause-command c =
    let last = last_word Follow 1 MOST_PIECE c.args.words.now c.size-item.result (search rules) c.size-item.is in
    sym (last ∙ ap (option_map Follow)
    (ap (number_of 1 MOST_PIECE) (sym c.as_str.ensures.value) ∙ sym c.number_of.ensures.value ∙ c.in_ok-number_of.was))

pub returns-clause-length : goal.returns-clause-length
unfolding file_count point_count
returns-clause-length c = search rules
