use Rattle.std.proofs.Common.{length, ap, sym, ◌∙◌, subst, arith}
use Rattle.std.proofs.lemmas.List.{take_all}
use Rattle.acc_base.specs.Computing.{steps, Leaves}
use Rattle.acc_rows.specs.Answers.{tells}
use Rattle.acc_elim_readings.specs.Readings.{read_next}
use Rattle.acc_elim_decisions.specs.Readings.{unread, read_of}
use Rattle.acc_elim_decisions.proofs.ReadOn.{rest_is, read_rest, leaves_other}
use Rattle.acc_elim_decisions.proofs.reading.Reading.catch_up.Goals as goal

pub returns-in-Ok-clause-read : goal.returns-in-Ok-clause-read
returns-in-Ok-clause-read c =
    let rels = c.args.rels.now in
    record {
      few = omega arith;
      first = ap (steps read_next unread) (take_all (length rels) rels (omega arith))
          ∙ (sym (read_rest rels c.args.self.now.count (read_of c.args.self.now) c.requires.first)
          ∙ (ap (steps read_next (read_of c.args.self.now)) (sym (rest_is rels c.args.self.now.count)) ∙ c.in-Ok.ensures));
    }

pub returns-in-Ok-clause-all : goal.returns-in-Ok-clause-all
returns-in-Ok-clause-all c =
    subst (λ o. Leaves tells c.read_all-end.result (c.read_all-end.new.names.items, c.read_all-end.new.rows.items) o)
    (ap (steps read_next (read_of c.args.self.now)) (rest_is c.args.rels.now c.args.self.now.count)
    ∙ read_rest c.args.rels.now c.args.self.now.count (read_of c.args.self.now) c.requires.first) c.read_all-end.ensures

pub returns-in-Err-clause-all : goal.returns-in-Err-clause-all
returns-in-Err-clause-all c =
    leaves_other c.read_all-end.result (c.read_all-end.new.names.items, c.read_all-end.new.rows.items) (read_of c.forget.new.self) _ _
    c.in-Err.is (subst (λ o. Leaves tells c.read_all-end.result (c.read_all-end.new.names.items, c.read_all-end.new.rows.items) o)
    (ap (steps read_next (read_of c.args.self.now)) (rest_is c.args.rels.now c.args.self.now.count)
    ∙ read_rest c.args.rels.now c.args.self.now.count (read_of c.args.self.now) c.requires.first) c.read_all-end.ensures)
