-- The JSON values that multipliers, axioms, nodes and proofs are written as.
use Rattle.std.specs.Prelude.{ℕ, List, [], ◌∷◌, codes}
use Rattle.serde_json.specs.Data.{Data, string}
use Rattle.acc_base.specs.declared.forms.Lin.{Lin}
use Rattle.acc_farkas.specs.declared.refuting.Mults.{Mults}
use Rattle.acc_axioms.specs.declared.nodes.Schema.{Schema}
use Rattle.acc_axioms.specs.declared.nodes.Schema.TheVariants as schema
use Rattle.acc_axioms.specs.declared.nodes.Node.{Node}
use Rattle.acc_axioms.specs.declared.nodes.Node.TheVariants as node
use Rattle.acc_axioms.specs.declared.nodes.Proof.{Proof}
use Rattle.acc_axioms.specs.declared.nodes.Cert.{Cert}
use Rattle.acc_axioms.specs.Kinds.{axiom_kind, axiom_number}
use Rattle.acc_cert.specs.Spelled.{array_of, each, pair, index, signed, lins, unknown, form_data}

abbrev pub mults : Mults → Data
mults m = each (pair index signed) m.of

-- ---- axioms

abbrev pub key : ℕ → List Lin → Data
key t k = array_of (index t ∷ lins k ∷ [])

abbrev pub key_and_number : ℕ → List Lin → ℕ → Data
key_and_number t k n = array_of (index t ∷ lins k ∷ index n ∷ [])

abbrev pub arguments : Schema → Data
arguments (schema.Has t k) = key t k
arguments (schema.Count t k) = key t k
arguments (schema.Front t k n) = key_and_number t k n
arguments (schema.Same u v) = array_of (unknown u ∷ unknown v ∷ [])
arguments (schema.NoCol t k c) = key_and_number t k c
arguments (schema.NoSum t k c) = key_and_number t k c
arguments (schema.OneCount t k) = key t k
arguments (schema.OneSum t k c) = key_and_number t k c
arguments (schema.Opened u) = array_of (unknown u ∷ [])
arguments (schema.Shut u n side) = array_of (unknown u ∷ index n ∷ index side ∷ [])
arguments (schema.Empty u) = array_of (unknown u ∷ [])
arguments (schema.Fresh t k) = key t k

-- ---- nodes

abbrev pub axiom_node : Schema → List Mults → Data
axiom_node x ms = array_of (string (codes "axiom") ∷ index (axiom_number (axiom_kind x)) ∷ arguments x ∷ each mults ms ∷ [])

abbrev pub node_data : Node → Data
node_data (node.Split f) = array_of (string (codes "split") ∷ form_data f ∷ [])
node_data (node.Inst h ls ms) = array_of (string (codes "inst") ∷ index h ∷ lins ls ∷ each mults ms ∷ [])
node_data (node.Axiom x ms) = axiom_node x ms
node_data (node.Leaf m) = array_of (string (codes "leaf") ∷ mults m ∷ [])

abbrev pub proof : Proof → Data
proof p = each node_data p.nodes

abbrev pub cert : Cert → Data
cert c = each proof c.proofs
