-- Whether the numbers of a certificate are within the bounds of its file.
use Rattle.std.specs.Prelude.{ℕ, ◌^◌, Bool, true, ◌&&◌, nat_lt, nat_le, List, ℤ, pos, unsigned_abs}
use Rattle.std.specs.List.{list_all}
use Rattle.acc_base.specs.declared.forms.Lin.{Lin}
use Rattle.acc_base.specs.declared.forms.Atom.{Atom}
use Rattle.acc_base.specs.declared.forms.Atom.TheVariants as atom
use Rattle.acc_base.specs.declared.forms.Unknown.{Unknown}
use Rattle.acc_base.specs.declared.forms.Form.{Form}
use Rattle.acc_base.specs.declared.bounds.TheConstants.{LARGEST_SUM}
use Rattle.acc_farkas.specs.declared.refuting.Mults.{Mults}
use Rattle.acc_axioms.specs.declared.nodes.Schema.{Schema}
use Rattle.acc_axioms.specs.declared.nodes.Schema.TheVariants as schema
use Rattle.acc_axioms.specs.declared.nodes.Node.{Node}
use Rattle.acc_axioms.specs.declared.nodes.Node.TheVariants as node
use Rattle.acc_axioms.specs.declared.nodes.Proof.{Proof}
use Rattle.acc_axioms.specs.declared.nodes.Cert.{Cert}

-- within 2^120 of 0
abbrev pub is_near : ℤ → Bool
is_near z = nat_le (unsigned_abs z) LARGEST_SUM

-- of 64 bits
abbrev pub is_narrow : ℤ → Bool
is_narrow (pos n) = nat_lt n (2 ^ 63)
is_narrow z = nat_le (unsigned_abs z) (2 ^ 63)

abbrev pub index : ℕ → Bool
index n = nat_lt n (2 ^ 32)

abbrev pub pair : {A B : Type 0} → (A → Bool) → (B → Bool) → A × B → Bool
pair f g p = f p.0 && g p.1

abbrev pub lin : Lin → Bool
lin l = list_all (pair index is_narrow) l.coeffs && is_narrow l.constant

abbrev pub lins : List Lin → Bool
lins = list_all lin

abbrev pub atom_in : Atom → Bool
atom_in atom.One = true
atom_in (atom.Var x) = index x
atom_in (atom.Has t k) = index t && lins k
atom_in (atom.Col t k c) = index t && (lins k && index c)
atom_in (atom.Count t k) = index t && lins k
atom_in (atom.Sum t k c) = index t && (lins k && index c)

abbrev pub unknown : Unknown → Bool
unknown u = lins u.under && atom_in u.atom

abbrev pub form_in : Form → Bool
form_in f = list_all (pair unknown is_near) f.terms && is_near f.constant

abbrev pub mults : Mults → Bool
mults m = list_all (pair index is_near) m.of

abbrev pub schema_in : Schema → Bool
schema_in (schema.Has t k) = index t && lins k
schema_in (schema.Count t k) = index t && lins k
schema_in (schema.Front t k n) = index t && (lins k && index n)
schema_in (schema.Same u v) = unknown u && unknown v
schema_in (schema.NoCol t k c) = index t && (lins k && index c)
schema_in (schema.NoSum t k c) = index t && (lins k && index c)
schema_in (schema.OneCount t k) = index t && lins k
schema_in (schema.OneSum t k c) = index t && (lins k && index c)
schema_in (schema.Opened u) = unknown u
schema_in (schema.Shut u n side) = unknown u && (index n && index side)
schema_in (schema.Empty u) = unknown u
schema_in (schema.Fresh t k) = index t && lins k

abbrev pub node_in : Node → Bool
node_in (node.Split f) = form_in f
node_in (node.Inst h ls ms) = index h && (lins ls && list_all mults ms)
node_in (node.Axiom x ms) = schema_in x && list_all mults ms
node_in (node.Leaf m) = mults m

abbrev pub nodes : List Node → Bool
nodes = list_all node_in

abbrev pub proof : Proof → Bool
proof p = nodes p.nodes

-- indexes below 2^32, numbers of linear values in 64 bits, and all others within 2^120 of 0
abbrev pub cert : Cert → Bool
cert c = list_all proof c.proofs

-- ---- the numbers that may have more than 64 bits, alone: those of a split's form, and multipliers. All others are within the bounds by
-- their types

abbrev pub form_near : Form → Bool
form_near f = list_all (λ t. is_near t.1) f.terms && is_near f.constant

abbrev pub mults_near : Mults → Bool
mults_near m = list_all (λ p. is_near p.1) m.of

abbrev pub node_near : Node → Bool
node_near (node.Split f) = form_near f
node_near (node.Inst h ls ms) = list_all mults_near ms
node_near (node.Axiom x ms) = list_all mults_near ms
node_near (node.Leaf m) = mults_near m

abbrev pub nodes_near : List Node → Bool
nodes_near = list_all node_near
