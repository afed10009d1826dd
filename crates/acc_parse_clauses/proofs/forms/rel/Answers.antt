use Rattle.std.proofs.Common.{◌≡◌, ◌∙◌, ap, rules}
use Rattle.acc_base.specs.declared.forms.Unknown.{Unknown}
use Rattle.acc_terms.specs.declared.collecting.Terms.{Terms}
use Rattle.acc_parse_limits.specs.Walks.{after}
use Rattle.acc_parse_clauses.specs.Forms.{rel_terms}
use Rattle.acc_parse_clauses.specs.Sizes.{form_sizes, terms_sizes}
use Rattle.acc_parse_clauses.specs.Views.{scope_in}
use Rattle.acc_parse_clauses.proofs.Walked.{walked_thrice}
use Rattle.acc_parse_clauses.proofs.forms.rel.Goals as goal

pub returns-clause-walk : goal.returns-clause-walk
returns-clause-walk c =
    let s = scope_in c.args.scope.now in
    let r = c.args.rel.now in
    let is : c.in_ok-terms.terms ≡ rel_terms s r = search rules in
    let left : c.form_parts.new.walk ≡ after c.args.walk.now (form_sizes s r.left) = search rules in
    let right : c.form_parts-2.new.walk ≡ after c.form_parts.new.walk (form_sizes s r.right) = search rules in
    let last : c.form_by.new.walk ≡ after c.form_parts-2.new.walk (terms_sizes (rel_terms s r)) =
    c.form_by.ensures.walk ∙ ap (λ (t : Terms Unknown). after c.form_parts-2.new.walk (terms_sizes t)) is in
    walked_thrice (form_sizes s r.left) (form_sizes s r.right) (terms_sizes (rel_terms s r)) _ _ _ _ left right last
