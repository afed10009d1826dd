use Rattle.std.proofs.Common.{◌≡◌, ◌∙◌, sym, ap}
use Rattle.std.specs.Prelude.{option_copied, option_and_then, slice_get}
use Rattle.acc_parse_syntax.specs.declared.trees.TypeTree.{TypeTree}
use Rattle.acc_parse_names.specs.Members.{members_of}
use Rattle.acc_parse_names.proofs.Found.{found_by, got}
use Rattle.acc_parse_names.proofs.members.Types.members_of.Goals as goal

pub returns-in_err-find : goal.returns-in_err-find
returns-in_err-find c =
    let t = c.args.self.now in
    ap option_copied c.from_residual.ensures ∙ ap (option_and_then (slice_get t.members.items)) (sym c.in_err-find.was) ∙ found_by
    (λ (z : TypeTree). z.name) members_of c.args.name.now t.trees.now t.names t.members.items c.find.result t.named t.lined
    c.find.ensures.place

pub returns : goal.returns
returns c =
    let t = c.args.self.now in
    let looked : option_copied c.get.result ≡ slice_get c.deref.result.now c.in_ok-find.field-0 =
    got c.deref.result.now c.in_ok-find.field-0 c.get.result c.get.ensures.lookup.0 c.get.ensures.lookup.1 in
    looked ∙ ap (λ z. slice_get z c.in_ok-find.field-0) c.deref.ensures.value ∙ ap (option_and_then (slice_get t.members.items))
    (sym c.in_ok-find.was) ∙ found_by (λ (z : TypeTree). z.name) members_of c.args.name.now t.trees.now t.names t.members.items
    c.find.result t.named t.lined c.find.ensures.place
