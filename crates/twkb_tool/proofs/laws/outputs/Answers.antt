-- A layer that is accepted has one text, and other bytes have one line.
use Rattle.twkb_tool.proofs.Prelude.{◌≡◌, ◌∙◌, ℕ, true, false, List, Some, refl, sym, ap, layer_once, Geometry, IsCertifiedLayer, IsAccepted, IsOutput, IsLayerText, IsNoLine, IsTrueFor, word_of, Request, Check, CheckTight, Scan}
use Rattle.twkb_layer.proofs.Refusals.{refusal_once}
use Rattle.twkb_layer.specs.Refusal.{IsRefusal}
use Rattle.twkb_tool.specs.declared.judge.Verdict.{Verdict}
use Rattle.twkb_tool.specs.declared.judge.Verdict.TheVariants.{Yes, No}
use Rattle.twkb_tool.specs.declared.request.Request.TheVariants.{List as ListBlobs}
use Rattle.twkb_tool.proofs.laws.outputs.Goals as goal

-- a layer that is accepted for a request is certified
accepted_layer : (request : Request) (trees : List Geometry) (bytes : List ℕ) → IsAccepted request trees bytes → IsCertifiedLayer trees bytes
accepted_layer Check trees bytes h = h
accepted_layer CheckTight trees bytes h = h.layer
accepted_layer ListBlobs trees bytes h = h
accepted_layer (Scan windows) trees bytes h = h

-- a layer has one text
one_layer_text : (request : Request) (bytes text other : List ℕ) → IsLayerText request bytes text → IsLayerText request bytes other → text ≡ other
one_layer_text request bytes text other a b =
    let same = layer_once a.trees b.trees bytes (accepted_layer request a.trees bytes a.layer).layer (accepted_layer request b.trees bytes b.layer).layer in
    rw (a.text_is, b.text_is, same) refl

one_word : (kind cause : ℕ) (word other : List ℕ) → kind ≡ cause → word_of kind ≡ Some word → word_of cause ≡ Some other → word ≡ other
one_word kind cause word other same a b = let e : Some word ≡ Some other = sym a ∙ (ap word_of same ∙ b) in cc (e)

-- bytes are refused in one way
refused_once : (request : Request) (bytes : List ℕ) (blob offset kind blob' offset' kind' : ℕ)
    → IsRefusal (IsTrueFor request) bytes blob offset kind → IsRefusal (IsTrueFor request) bytes blob' offset' kind'
    → (blob ≡ blob') × (offset ≡ offset') × (kind ≡ kind')
refused_once Check = refusal_once false
refused_once CheckTight = refusal_once true
refused_once ListBlobs = refusal_once false
refused_once (Scan windows) = refusal_once false

-- bytes that are refused have one line
one_no_line : (request : Request) (bytes text other : List ℕ) → IsNoLine request bytes text → IsNoLine request bytes other → text ≡ other
one_no_line request bytes text other a b =
    let same = refused_once request bytes a.blob a.offset a.kind b.blob b.offset b.kind a.refused b.refused in
    let word = one_word a.kind b.kind a.word b.word same.2 a.named b.named in
    rw (a.text_is, b.text_is, same.0, same.1, word) refl

one_output : (request : Request) (bytes text other : List ℕ) (verdict decision : Verdict) → IsOutput request bytes text verdict → IsOutput request bytes other decision
    → (text ≡ other) × (verdict ≡ decision)
one_output request bytes text other Yes Yes a b = (one_layer_text request bytes text other a b, refl)
one_output request bytes text other Yes No a b = absurd (b.none a.trees a.layer)
one_output request bytes text other No Yes a b = absurd (a.none b.trees b.layer)
one_output request bytes text other No No a b = (one_no_line request bytes text other a b, refl)

pub returns : goal.returns
returns c = one_output
