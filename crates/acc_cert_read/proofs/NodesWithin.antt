-- The same of nodes, proofs and certificates.
use Rattle.std.proofs.Common.{◌≡◌, ℕ, Bool, true, false, List, [], subst, Option, Some, None, Result, Ok, Err, IfOk}
use Rattle.std.specs.Prelude.{if◌then◌else◌, IsTrue}
use Rattle.std.specs.List.{list_all}
use Rattle.std.specs.Str.{is_utf8}
use Rattle.serde_json.specs.Data.{Data}
use Rattle.serde_json.specs.Read.{read}
use Rattle.acc_base.specs.declared.forms.Lin.{Lin}
use Rattle.acc_base.specs.declared.forms.Unknown.{Unknown}
use Rattle.acc_axioms.specs.Kinds.{kind_numbered}
use Rattle.acc_axioms.specs.declared.kinds.AxiomKind.{AxiomKind}
use Rattle.acc_axioms.specs.declared.kinds.AxiomKind.TheVariants as kind
use Rattle.acc_axioms.specs.declared.nodes.Schema.{Schema}
use Rattle.acc_axioms.specs.declared.nodes.Schema.TheVariants as schema
use Rattle.acc_axioms.specs.declared.nodes.Node.TheVariants as node
use Rattle.acc_axioms.specs.declared.nodes.Cert.{Cert}
use Rattle.acc_axioms.proofs.Tests.{both_true}
use Rattle.acc_cert_bounds.specs.InBounds.{is_near}
use Rattle.acc_cert_bounds.specs.InBounds as bounds
use Rattle.acc_cert_read.specs.declared.words.NodeWord.{NodeWord}
use Rattle.acc_cert_read.specs.declared.words.NodeWord.TheVariants as word
use Rattle.acc_cert_read.specs.Parts.{Good, Off, and_then, given, gives, field, ends, one, two, three, list_of}
use Rattle.acc_cert_read.specs.Forms.{index_of, wide_of, lins_of, unknown_of, form_of}
use Rattle.acc_cert_read.specs.Words.{node_word}
use Rattle.acc_cert_read.specs.Nodes.{mults_of, by_key, by_key_and_number, by_unknown, schema_of, schema_by, schema_at}
use Rattle.acc_cert_read.specs.Nodes.{shown_by, axiom_of, node_rest, node_of, proof_of}
use Rattle.acc_cert_read.specs.Certificates.{cert_of, cert_in}
use Rattle.acc_cert_read.proofs.Within.{Within, AllWithin, then_within, gives_within, field_within, ends_within, one_within, list_within}
use Rattle.acc_cert_read.proofs.Within.{triple, two_within, three_within, wide_within, index_within, lins_within, keyed, numbered}
use Rattle.acc_cert_read.proofs.Within.{key_within, key_number_within, worded, unknown_within, form_within}

multiplier_within : AllWithin (bounds.pair bounds.index is_near) (two 0 index_of wide_of)
multiplier_within d = two_within bounds.index is_near index_of wide_of index_within wide_within 0 d

mults_within : AllWithin bounds.mults mults_of
mults_within d =
    gives_within (list_all (bounds.pair bounds.index is_near)) bounds.mults (list_of (two 0 index_of wide_of) d) (λ ps. record { of = ps })
    (list_within (bounds.pair bounds.index is_near) (two 0 index_of wide_of) multiplier_within d) (λ ps h. h)

-- ---- axioms

by_key_within : (make : ℕ → List Lin → Schema) → ((p : ℕ × List Lin) → keyed p ≡ true → bounds.schema_in (make p.0 p.1) ≡ true)
    → AllWithin bounds.schema_in (by_key make)
by_key_within make h d = gives_within keyed bounds.schema_in (two 0 index_of lins_of d) (λ p. make p.0 p.1) (key_within 0 d) h

by_number_within : (make : ℕ → List Lin → ℕ → Schema)
    → ((p : ℕ × List Lin × ℕ) → numbered p ≡ true → bounds.schema_in (make p.0 p.1 p.2) ≡ true)
    → AllWithin bounds.schema_in (by_key_and_number make)
by_number_within make h d =
    gives_within numbered bounds.schema_in (three 0 index_of lins_of index_of d) (λ p. make p.0 p.1 p.2) (key_number_within 0 d) h

by_unknown_within : (make : Unknown → Schema) → ((u : Unknown) → bounds.unknown u ≡ true → bounds.schema_in (make u) ≡ true)
    → AllWithin bounds.schema_in (by_unknown make)
by_unknown_within make h d =
    gives_within bounds.unknown bounds.schema_in (one 0 unknown_of d) make (one_within bounds.unknown unknown_of unknown_within 0 d) h

shut_within : (d : Data) → Within bounds.schema_in (gives (λ p. schema.Shut p.0 p.1 p.2) (three 0 unknown_of index_of index_of d))
shut_within d =
    gives_within (triple bounds.unknown bounds.index bounds.index) bounds.schema_in (three 0 unknown_of index_of index_of d)
    (λ p. schema.Shut p.0 p.1 p.2)
    (three_within bounds.unknown bounds.index unknown_of index_of unknown_within index_within bounds.index index_of index_within 0 d)
    (λ p h. h)

same_within : (d : Data) → Within bounds.schema_in (gives (λ p. schema.Same p.0 p.1) (two 0 unknown_of unknown_of d))
same_within d =
    gives_within (bounds.pair bounds.unknown bounds.unknown) bounds.schema_in (two 0 unknown_of unknown_of d) (λ p. schema.Same p.0 p.1)
    (two_within bounds.unknown bounds.unknown unknown_of unknown_of unknown_within unknown_within 0 d) (λ p h. h)

schema_within : (k : AxiomKind) → AllWithin bounds.schema_in (schema_of k)
schema_within kind.Has d = by_key_within schema.Has (λ p h. h) d
schema_within kind.Count d = by_key_within schema.Count (λ p h. h) d
schema_within kind.Front d = by_number_within schema.Front (λ p h. h) d
schema_within kind.Same d = same_within d
schema_within kind.NoCol d = by_number_within schema.NoCol (λ p h. h) d
schema_within kind.NoSum d = by_number_within schema.NoSum (λ p h. h) d
schema_within kind.OneCount d = by_key_within schema.OneCount (λ p h. h) d
schema_within kind.OneSum d = by_number_within schema.OneSum (λ p h. h) d
schema_within kind.Opened d = by_unknown_within schema.Opened (λ u h. h) d
schema_within kind.Shut d = shut_within d
schema_within kind.Empty d = by_unknown_within schema.Empty (λ u h. h) d
schema_within kind.Fresh d = by_key_within schema.Fresh (λ p h. h) d

schema_at_within : (n : ℕ) (d : Data) → Within bounds.schema_in (schema_at n d)
schema_at_within n d = by (kind_numbered n)
  where
    by : (o : Option AxiomKind) → Within bounds.schema_in (schema_by o d)
    by None = tt
    by (Some k) = field_within bounds.schema_in (schema_of k) (schema_within k) 2 d

-- ---- nodes

lists_within : AllWithin (list_all bounds.mults) (list_of mults_of)
lists_within = list_within bounds.mults mults_of mults_within

shown_within : (x : Schema) → bounds.schema_in x ≡ true → (d : Data) → Within bounds.node_in (shown_by x d)
shown_within x e d =
    then_within (list_all bounds.mults) bounds.node_in (field 3 (list_of mults_of) d) (λ ms. ends 4 (node.Axiom x ms) d)
    (field_within (list_all bounds.mults) (list_of mults_of) lists_within 3 d)
    (λ ms h. ends_within bounds.node_in 4 (node.Axiom x ms) (both_true (bounds.schema_in x) (list_all bounds.mults ms) e h) d)

axiom_within : (d : Data) → Within bounds.node_in (axiom_of d)
axiom_within d =
    then_within bounds.index bounds.node_in (field 1 index_of d) (λ n. and_then (schema_at n d) (λ x. shown_by x d))
    (field_within bounds.index index_of index_within 1 d)
    (λ n e. then_within bounds.schema_in bounds.node_in (schema_at n d) (λ x. shown_by x d) (schema_at_within n d)
    (λ x h. shown_within x h d))

rest_within : (w : Option NodeWord) (d : Data) → Within bounds.node_in (node_rest w d)
rest_within None d = tt
rest_within (Some word.Split) d =
    gives_within bounds.form_in bounds.node_in (one 1 form_of d) node.Split (one_within bounds.form_in form_of form_within 1 d) (λ f h. h)
rest_within (Some word.Inst) d =
    gives_within (triple bounds.index bounds.lins (list_all bounds.mults)) bounds.node_in (three 1 index_of lins_of (list_of mults_of) d)
    (λ p. node.Inst p.0 p.1 p.2)
    (three_within bounds.index bounds.lins index_of lins_of index_within lins_within (list_all bounds.mults) (list_of mults_of)
    lists_within 1 d)
    (λ p h. h)
rest_within (Some word.Axiom) d = axiom_within d
rest_within (Some word.Leaf) d =
    gives_within bounds.mults bounds.node_in (one 1 mults_of d) node.Leaf (one_within bounds.mults mults_of mults_within 1 d) (λ m h. h)

node_within : AllWithin bounds.node_in node_of
node_within d = worded bounds.node_in (λ w. node_rest (node_word w) d) (λ w. rest_within (node_word w) d) d

-- ---- proofs and certificates

proof_within : AllWithin bounds.proof proof_of
proof_within d =
    gives_within (list_all bounds.node_in) bounds.proof (list_of node_of d) (λ ns. record { nodes = ns })
    (list_within bounds.node_in node_of node_within d) (λ ns h. h)

cert_within : AllWithin bounds.cert cert_of
cert_within d =
    gives_within (list_all bounds.proof) bounds.cert (list_of proof_of d) (λ ps. record { proofs = ps })
    (list_within bounds.proof proof_of proof_within d) (λ ps h. h)

-- a certificate that is read is within the bounds
pub in_bounds : (bytes : List ℕ) (c : Cert) → cert_in bytes ≡ Good c → bounds.cert c ≡ true
in_bounds bytes c e = subst (Within bounds.cert) e (by (is_utf8 bytes))
  where
    of_data : (o : Option Data) → Within bounds.cert (and_then (given o) cert_of)
    of_data None = tt
    of_data (Some d) = cert_within d

    by : (b : Bool) → Within bounds.cert (if b then and_then (given (read bytes)) cert_of else Off [])
    by true = of_data (read bytes)
    by false = tt

pub read_in_bounds : {E : Type 0} (bytes : List ℕ) (r : Result Cert E) → IfOk r (λ c. cert_in bytes ≡ Good c)
    → IfOk r (λ c. IsTrue (bounds.cert c))
read_in_bounds bytes (Ok c) h = in_bounds bytes c h
read_in_bounds bytes (Err e) h = tt
