use Rattle.std.proofs.Common.{◌≡◌, drop}
use Rattle.acc_farkas.specs.Sums.{plus_terms, are_terms_wide}
use Rattle.acc_farkas.proofs.weights.Weighing.add_terms.Given as goal

abbrev pub invariant-loop-unknown : goal.invariant-loop-unknown
invariant-loop-unknown l =
    record {
      value : plus_terms l.by (drop l.unknown-index l.terms) l.self ≡ plus_terms l.by l.terms l.fn.self;
      wide : are_terms_wide l.by (drop l.unknown-index l.terms) l.self ≡ are_terms_wide l.by l.terms l.fn.self;
    }
