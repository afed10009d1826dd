use Rattle.std.proofs.Common.{◌∙◌, ◌++◌, length, take, drop, replicate, ap}
use Rattle.acc_store.specs.Places.{top}
use Rattle.acc_store.proofs.Tops.{filled}
use Rattle.acc_store.proofs.places.Place.last.Goals as goal

pub returns : goal.returns
returns c =
    let p = c.args.prefix.now in
    let parts = ap (λ xs. take 6 (xs ++ drop (length p) (replicate 6 top))) c.copy_from_slice.ensures.after ∙ filled p top c.requires in
    ap (λ xs. (c.args.table, xs)) parts
