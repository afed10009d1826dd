-- The words of certificates.
use Rattle.std.specs.Prelude.{ℕ, if◌then◌else◌, List, codes, Option, Some, None}
use Rattle.std.specs.Str.{bytes_eq}
use Rattle.acc_base.specs.declared.atoms.AtomKind.{AtomKind}
use Rattle.acc_base.specs.declared.atoms.AtomKind.TheVariants as atom
use Rattle.acc_cert_read.specs.declared.words.NodeWord.{NodeWord}
use Rattle.acc_cert_read.specs.declared.words.NodeWord.TheVariants as node

abbrev pub atom_word : List ℕ → Option AtomKind
atom_word w =
    if bytes_eq w (codes "one") then Some atom.One
    else (if bytes_eq w (codes "var") then Some atom.Var
    else (if bytes_eq w (codes "has") then Some atom.Has
    else (if bytes_eq w (codes "col") then Some atom.Col
    else (if bytes_eq w (codes "count") then Some atom.Count
    else (if bytes_eq w (codes "sum") then Some atom.Sum else None)))))

abbrev pub node_word : List ℕ → Option NodeWord
node_word w =
    if bytes_eq w (codes "split") then Some node.Split
    else (if bytes_eq w (codes "inst") then Some node.Inst
    else (if bytes_eq w (codes "axiom") then Some node.Axiom
    else (if bytes_eq w (codes "leaf") then Some node.Leaf else None)))
