-- The same of nodes, proofs and certificates.
use Rattle.std.proofs.Common.{◌≡◌, ℕ, true, List, [], ◌∷◌, refl, ap, ◌∙◌, ℤ}
use Rattle.std.specs.Prelude.{◌&&◌, codes}
use Rattle.std.specs.Cmp.{first_so, second_so}
use Rattle.std.specs.List.{list_all}
use Rattle.serde_json.specs.Data.{Data, string}
use Rattle.acc_farkas.specs.declared.refuting.Mults.{Mults}
use Rattle.acc_axioms.specs.Kinds.{axiom_kind, axiom_number}
use Rattle.acc_axioms.proofs.KindNumbers.{number_known}
use Rattle.acc_axioms.specs.declared.kinds.AxiomKind.{AxiomKind}
use Rattle.acc_axioms.specs.declared.kinds.AxiomKind.TheVariants as kind
use Rattle.acc_axioms.specs.declared.nodes.Schema.{Schema}
use Rattle.acc_axioms.specs.declared.nodes.Schema.TheVariants as schema
use Rattle.acc_axioms.specs.declared.nodes.Node.{Node}
use Rattle.acc_axioms.specs.declared.nodes.Node.TheVariants as node
use Rattle.acc_axioms.specs.declared.nodes.Proof.{Proof}
use Rattle.acc_axioms.specs.declared.nodes.Cert.{Cert}
use Rattle.acc_cert_bounds.specs.InBounds.{is_near}
use Rattle.acc_cert_bounds.specs.InBounds as bounds
use Rattle.acc_cert_read.specs.Parts.{Part, Good, and_then, under, gives, two, list_of}
use Rattle.acc_cert_read.specs.Forms.{index_of, wide_of, lins_of, unknown_of, form_of}
use Rattle.acc_cert_read.specs.Nodes.{mults_of, schema_of, schema_by, schema_at, shown_by, axiom_of, node_of, proof_of}
use Rattle.acc_cert_read.specs.Certificates.{cert_of}
use Rattle.acc_cert.specs.Spelled.{array_of, each, pair, index, signed, lins, unknown, form_data}
use Rattle.acc_cert.specs.SpelledNodes.{mults, arguments, node_data, proof, cert}
use Rattle.acc_cert.proofs.Readings.{each_read, one_read, one_behind, two_read, three_read, three_behind, index_read, wide_read, lins_read}
use Rattle.acc_cert.proofs.Readings.{key_read, key_number_read, unknown_read, form_read}

multiplier_read : (p : ℕ × ℤ) → bounds.pair bounds.index is_near p ≡ true → two 0 index_of wide_of (pair index signed p) ≡ Good p
multiplier_read p h =
    two_read index_of (index p.0) p.0 (index_read p.0 (first_so (bounds.index p.0) (is_near p.1) h)) wide_of (signed p.1) p.1
    (wide_read p.1 (second_so (bounds.index p.0) (is_near p.1) h))

mults_read : (m : Mults) → bounds.mults m ≡ true → mults_of (mults m) ≡ Good m
mults_read m h =
    ap (gives (λ ps. record { of = ps })) (each_read (pair index signed) (two 0 index_of wide_of) (bounds.pair bounds.index is_near)
    multiplier_read m.of h)

list_read : (ms : List Mults) → list_all bounds.mults ms ≡ true → list_of mults_of (each mults ms) ≡ Good ms
list_read ms h = each_read mults mults_of bounds.mults mults_read ms h

schema_read : (x : Schema) → bounds.schema_in x ≡ true → schema_of (axiom_kind x) (arguments x) ≡ Good x
schema_read (schema.Has t k) h = ap (gives (λ p. schema.Has p.0 p.1)) (key_read t k h)
schema_read (schema.Count t k) h = ap (gives (λ p. schema.Count p.0 p.1)) (key_read t k h)
schema_read (schema.Front t k n) h = ap (gives (λ p. schema.Front p.0 p.1 p.2)) (key_number_read t k n h)
schema_read (schema.Same u v) h =
    ap (gives (λ p. schema.Same p.0 p.1)) (two_read unknown_of (unknown u) u
    (unknown_read u (first_so (bounds.unknown u) (bounds.unknown v) h)) unknown_of (unknown v) v
    (unknown_read v (second_so (bounds.unknown u) (bounds.unknown v) h)))
schema_read (schema.NoCol t k c) h = ap (gives (λ p. schema.NoCol p.0 p.1 p.2)) (key_number_read t k c h)
schema_read (schema.NoSum t k c) h = ap (gives (λ p. schema.NoSum p.0 p.1 p.2)) (key_number_read t k c h)
schema_read (schema.OneCount t k) h = ap (gives (λ p. schema.OneCount p.0 p.1)) (key_read t k h)
schema_read (schema.OneSum t k c) h = ap (gives (λ p. schema.OneSum p.0 p.1 p.2)) (key_number_read t k c h)
schema_read (schema.Opened u) h = ap (gives schema.Opened) (one_read unknown_of (unknown u) u (unknown_read u h))
schema_read (schema.Shut u n side) h =
    let numbers : (bounds.index n && bounds.index side) ≡ true = second_so (bounds.unknown u) (bounds.index n && bounds.index side) h in
    ap (gives (λ p. schema.Shut p.0 p.1 p.2)) (three_read unknown_of (unknown u) u
    (unknown_read u (first_so (bounds.unknown u) (bounds.index n && bounds.index side) h)) index_of (index n) n
    (index_read n (first_so (bounds.index n) (bounds.index side) numbers)) index_of (index side) side
    (index_read side (second_so (bounds.index n) (bounds.index side) numbers)))
schema_read (schema.Empty u) h = ap (gives schema.Empty) (one_read unknown_of (unknown u) u (unknown_read u h))
schema_read (schema.Fresh t k) h = ap (gives (λ p. schema.Fresh p.0 p.1)) (key_read t k h)

low_number : (k : AxiomKind) → bounds.index (axiom_number k) ≡ true
low_number kind.Has = refl
low_number kind.Count = refl
low_number kind.Front = refl
low_number kind.Same = refl
low_number kind.NoCol = refl
low_number kind.NoSum = refl
low_number kind.OneCount = refl
low_number kind.OneSum = refl
low_number kind.Opened = refl
low_number kind.Shut = refl
low_number kind.Empty = refl
low_number kind.Fresh = refl

abbrev axiom_data : ℕ → Data → List Mults → Data
axiom_data n args ms = array_of (string (codes "axiom") ∷ index n ∷ args ∷ each mults ms ∷ [])

numbered_as : (k : AxiomKind) (args : Data) (x : Schema) (ms : List Mults) → schema_of k args ≡ Good x
    → axiom_of (axiom_data (axiom_number k) args ms) ≡ shown_by x (axiom_data (axiom_number k) args ms)
numbered_as k args x ms is =
    let at_two : schema_at (axiom_number k) (axiom_data (axiom_number k) args ms) ≡ Good x =
    ap (λ o. schema_by o (axiom_data (axiom_number k) args ms)) (number_known k) ∙ ap (under 2) is in
    by_parts (axiom_data (axiom_number k) args ms) (index_of (index (axiom_number k))) (index_read (axiom_number k) (low_number k))
    (λ m. schema_at m (axiom_data (axiom_number k) args ms)) at_two
  where
    by_parts : (d : Data) (i : Part ℕ) → i ≡ Good (axiom_number k) → (f : ℕ → Part Schema) → f (axiom_number k) ≡ Good x →
        and_then (under 1 i) (λ m. and_then (f m) (λ y. shown_by y d)) ≡ shown_by x d
    by_parts d i first f second = rw (first, second) refl

shown_read : (n : ℕ) (args : Data) (x : Schema) (ms : List Mults) → list_all bounds.mults ms ≡ true →
    shown_by x (axiom_data n args ms) ≡ Good (node.Axiom x ms)
shown_read n args x ms all = by (list_of mults_of (each mults ms)) (list_read ms all)
  where
    by : (o : Part (List Mults)) → o ≡ Good ms → and_then (under 3 o) (λ ys. Good (node.Axiom x ys)) ≡ Good (node.Axiom x ms)
    by o good = rw good refl

axiom_read : (k : AxiomKind) (args : Data) (x : Schema) (ms : List Mults) → schema_of k args ≡ Good x → list_all bounds.mults ms ≡ true
    → axiom_of (array_of (string (codes "axiom") ∷ index (axiom_number k) ∷ args ∷ each mults ms ∷ [])) ≡ Good (node.Axiom x ms)
axiom_read k args x ms is all = numbered_as k args x ms is ∙ shown_read (axiom_number k) args x ms all

node_read : (n : Node) → bounds.node_in n ≡ true → node_of (node_data n) ≡ Good n
node_read (node.Split f) h = ap (gives node.Split) (one_behind form_of (form_data f) f (form_read f h) (string (codes "split")))
node_read (node.Inst i ls ms) h =
    let rest : (bounds.lins ls && list_all bounds.mults ms) ≡ true =
    second_so (bounds.index i) (bounds.lins ls && list_all bounds.mults ms) h in
    ap (gives (λ p. node.Inst p.0 p.1 p.2)) (three_behind index_of (index i) i
    (index_read i (first_so (bounds.index i) (bounds.lins ls && list_all bounds.mults ms) h)) lins_of (lins ls) ls
    (lins_read ls (first_so (bounds.lins ls) (list_all bounds.mults ms) rest)) (list_of mults_of) (each mults ms) ms
    (list_read ms (second_so (bounds.lins ls) (list_all bounds.mults ms) rest)) (string (codes "inst")))
node_read (node.Axiom x ms) h =
    axiom_read (axiom_kind x) (arguments x) x ms (schema_read x (first_so (bounds.schema_in x) (list_all bounds.mults ms) h))
    (second_so (bounds.schema_in x) (list_all bounds.mults ms) h)
node_read (node.Leaf m) h = ap (gives node.Leaf) (one_behind mults_of (mults m) m (mults_read m h) (string (codes "leaf")))

proof_read : (p : Proof) → bounds.proof p ≡ true → proof_of (proof p) ≡ Good p
proof_read p h = ap (gives (λ ns. record { nodes = ns })) (each_read node_data node_of bounds.node_in node_read p.nodes h)

pub cert_read : (c : Cert) → bounds.cert c ≡ true → cert_of (cert c) ≡ Good c
cert_read c h = ap (gives (λ ps. record { proofs = ps })) (each_read proof proof_of bounds.proof proof_read c.proofs h)
