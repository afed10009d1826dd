use Rattle.std.proofs.Common.{◌++◌, ◌∷◌, [], None, sym, subst}
use Rattle.acc_elim_known.specs.Ends.{IsWhole}
use Rattle.acc_elim_known.proofs.Knowns.{whole_carried}
use Rattle.acc_elim_known.proofs.known.carry_whole.Goals as goal

pub returns : goal.returns
returns c = λ rows n is.
    let whole = c.args.whole.now in
    let path = c.carry.new.path in
    subst (λ rs. IsWhole (rows ++ c.args.row ∷ []) n (record {
      unknowns = whole.unknowns;
      stage = record { path = path; rows = rs; left = whole.stage.left };
      point = None;
    })) (sym c.in_ok-add_left.ensures)
    (whole_carried rows n whole c.args.row path c.in_ok-left.left c.requires c.in_ok-left.ensures is)
