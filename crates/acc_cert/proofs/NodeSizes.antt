-- The same of nodes, proofs and certificates.
use Rattle.std.proofs.Common.{ℕ, List, arith}
use Rattle.std.specs.Prelude.{codes}
use Rattle.acc_base.specs.declared.forms.Lin.{Lin}
use Rattle.acc_farkas.specs.declared.refuting.Mults.{Mults}
use Rattle.acc_axioms.specs.declared.nodes.Schema.{Schema}
use Rattle.acc_axioms.specs.declared.nodes.Schema.TheVariants as schema
use Rattle.acc_axioms.specs.declared.nodes.Node.{Node}
use Rattle.acc_axioms.specs.declared.nodes.Node.TheVariants as node
use Rattle.acc_axioms.specs.declared.nodes.Proof.{Proof}
use Rattle.acc_axioms.specs.declared.nodes.Cert.{Cert}
use Rattle.acc_cert.specs.Spelled.{pair, index, signed}
use Rattle.acc_axioms.specs.Kinds.{axiom_kind, axiom_number}
use Rattle.acc_cert.specs.SpelledNodes.{mults, key, key_and_number, arguments, node_data, proof, cert}
use Rattle.acc_cert.proofs.Sizes.{IsPlain, none, more, whole, number_plain, text_plain, pair_plain, each_plain, lins_plain, unknown_plain}
use Rattle.acc_cert.proofs.Sizes.{form_plain}

mults_plain : (m : Mults) → IsPlain 2 (mults m)
mults_plain m = each_plain (pair index signed) 1 pair_plain m.of

key_plain : (t : ℕ) (k : List Lin) → IsPlain 7 (key t k)
key_plain t k = whole (more (number_plain t) (omega arith) (more (lins_plain k) (omega arith) none))

key_and_number_plain : (t : ℕ) (k : List Lin) (n : ℕ) → IsPlain 7 (key_and_number t k n)
key_and_number_plain t k n =
    whole (more (number_plain t) (omega arith) (more (lins_plain k) (omega arith) (more (number_plain n) (omega arith) none)))

arguments_plain : (x : Schema) → IsPlain 7 (arguments x)
arguments_plain (schema.Has t k) = key_plain t k
arguments_plain (schema.Count t k) = key_plain t k
arguments_plain (schema.Front t k n) = key_and_number_plain t k n
arguments_plain (schema.Same u v) = whole (more (unknown_plain u) (omega arith) (more (unknown_plain v) (omega arith) none))
arguments_plain (schema.NoCol t k c) = key_and_number_plain t k c
arguments_plain (schema.NoSum t k c) = key_and_number_plain t k c
arguments_plain (schema.OneCount t k) = key_plain t k
arguments_plain (schema.OneSum t k c) = key_and_number_plain t k c
arguments_plain (schema.Opened u) = whole (more (unknown_plain u) (omega arith) none)
arguments_plain (schema.Shut u n side) =
    whole (more (unknown_plain u) (omega arith) (more (number_plain n) (omega arith) (more (number_plain side) (omega arith) none)))
arguments_plain (schema.Empty u) = whole (more (unknown_plain u) (omega arith) none)
arguments_plain (schema.Fresh t k) = key_plain t k

node_plain : (n : Node) → IsPlain 10 (node_data n)
node_plain (node.Split f) = whole (more (text_plain (codes "split")) (omega arith) (more (form_plain f) (omega arith) none))
node_plain (node.Inst h ls ms) =
    whole (more (text_plain (codes "inst")) (omega arith)
    (more (number_plain h) (omega arith) (more (lins_plain ls) (omega arith)
    (more (each_plain mults 2 mults_plain ms) (omega arith) none))))
node_plain (node.Axiom x ms) =
    whole (more (text_plain (codes "axiom")) (omega arith)
    (more (number_plain (axiom_number (axiom_kind x))) (omega arith)
    (more (arguments_plain x) (omega arith) (more (each_plain mults 2 mults_plain ms) (omega arith) none))))
node_plain (node.Leaf m) = whole (more (text_plain (codes "leaf")) (omega arith) (more (mults_plain m) (omega arith) none))

proof_plain : (p : Proof) → IsPlain 11 (proof p)
proof_plain p = each_plain node_data 10 node_plain p.nodes

pub cert_plain : (c : Cert) → IsPlain 12 (cert c)
cert_plain c = each_plain proof 11 proof_plain c.proofs
