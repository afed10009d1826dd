-- Atoms that differ in their keys alone: either is the other at its own key.
use Rattle.std.proofs.Common.{◌≡◌, true, length, ◌==◌}
use Rattle.std.specs.Prelude.{◌&&◌, is_some}
use Rattle.std.specs.Option.{option_eq}
use Rattle.std.specs.Cmp.{first_so, second_so}
use Rattle.std.proofs.lemmas.Bool.Decides.{Decides-eqb}
use Rattle.acc_base.specs.declared.forms.Atom.{Atom}
use Rattle.acc_base.specs.declared.forms.Atom.TheVariants.{Has, Col, Count, Sum}
use Rattle.acc_base.specs.Atoms.{kind_of, kind_eq, kind_decides, table_of, key_of, column_of, with_key, alike}
use Rattle.acc_base.specs.Pairs.{option_decides}

record IsAlike (a b : Atom) : Type 0 where
  some : is_some (table_of a) ≡ true
  kinds : kind_of a ≡ kind_of b
  tables : table_of a ≡ table_of b
  columns : column_of a ≡ column_of b
  lengths : length (key_of a) ≡ length (key_of b)

parts : (a b : Atom) → alike a b ≡ true → IsAlike a b
parts a b h =
    let kinds = kind_eq (kind_of a) (kind_of b) in
    let tables = option_eq ◌==◌ (table_of a) (table_of b) in
    let columns = option_eq ◌==◌ (column_of a) (column_of b) in
    let lengths = length (key_of a) == length (key_of b) in
    let one = second_so (is_some (table_of a)) (kinds && (tables && (columns && lengths))) h in
    let two = second_so kinds (tables && (columns && lengths)) one in
    let three = second_so tables (columns && lengths) two in
    record {
      some = first_so (is_some (table_of a)) (kinds && (tables && (columns && lengths))) h;
      kinds = (kind_decides (kind_of a) (kind_of b)).0 (first_so kinds (tables && (columns && lengths)) one);
      tables = (option_decides ◌==◌ Decides-eqb (table_of a) (table_of b)).0 (first_so tables (columns && lengths) two);
      columns = (option_decides ◌==◌ Decides-eqb (column_of a) (column_of b)).0 (first_so columns lengths three);
      lengths = (Decides-eqb (length (key_of a)) (length (key_of b))).0 (second_so columns lengths three);
    }

pub one_length : (a b : Atom) → alike a b ≡ true → length (key_of a) ≡ length (key_of b)
one_length a b h = (parts a b h).lengths

with_parts : (a b : Atom) → is_some (table_of a) ≡ true → kind_of a ≡ kind_of b → table_of a ≡ table_of b → column_of a ≡ column_of b
    → with_key a (key_of b) ≡ b
with_parts (Has t k) (Has u l) some kinds tables columns = cc
with_parts (Col t k c) (Col u l e) some kinds tables columns = cc
with_parts (Count t k) (Count u l) some kinds tables columns = cc
with_parts (Sum t k c) (Sum u l e) some kinds tables columns = cc
with_parts a b some kinds tables columns = absurd (cc)

pub with_key-alike : (a b : Atom) → alike a b ≡ true → with_key a (key_of b) ≡ b
with_key-alike a b h = let p = parts a b h in with_parts a b p.some p.kinds p.tables p.columns
