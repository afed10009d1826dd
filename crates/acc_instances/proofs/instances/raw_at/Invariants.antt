use Rattle.std.proofs.Common.{◌≡◌, [], drop}
use Rattle.acc_instanced.specs.Instances.{raw_from, raw_at, are_terms_wide}
use Rattle.acc_instances.proofs.instances.raw_at.Given as goal

abbrev pub invariant-loop-unknown : goal.invariant-loop-unknown
invariant-loop-unknown l =
    record {
      items : l.unknown-items ≡ l.form.terms;
      value : raw_from l.n l.own (drop l.unknown-index l.unknown-items) l.gained ≡ raw_at l.n l.own l.form;
      wide : are_terms_wide l.n l.own (drop l.unknown-index l.unknown-items) l.gained
          ≡ are_terms_wide l.n l.own l.form.terms (record { terms = []; constant = l.form.constant });
    }
