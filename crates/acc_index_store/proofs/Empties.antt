-- A store without rows.
use Rattle.std.proofs.Common.{◌≡◌, List, [], sym, subst, arith}
use Rattle.std.proofs.lemmas.List.Elements.{All-nil, All-same}
use Rattle.acc_base.specs.declared.tables.Row.{Row}
use Rattle.acc_base.specs.Tables.{IsInOrder}
use Rattle.acc_base.proofs.RowOrder.{order_to}
use Rattle.acc_store.specs.Rows.{SumsFit}
use Rattle.acc_index_store.specs.declared.indexes.Index.{Index}
use Rattle.acc_index_store.specs.Indexes.{AreIndexes, IsIndexOf}

no_sums : SumsFit []
no_sums t c = omega arith

pub none_sound : (rows : List Row) (xs : List Index) → rows ≡ [] → AreIndexes [] xs → IsInOrder rows × SumsFit rows × AreIndexes rows xs
none_sound rows xs e h = subst (λ (db : List Row). IsInOrder db × SumsFit db × AreIndexes db xs) (sym e) (order_to [] tt, no_sums, h)

pub no_indexes : (rows : List Row) (xs : List Index) → xs ≡ [] → AreIndexes rows xs
no_indexes rows xs e = All-same (IsIndexOf rows) xs [] e (All-nil (IsIndexOf rows))
