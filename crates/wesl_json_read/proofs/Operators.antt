-- What is read of the operator at `op`.
use Rattle.std.proofs.Common.{◌≡◌, ◌∙◌, [], Bool, Some, None, true, ap, codes, option_and_then, refl, subst, sym}
use Rattle.serde_json.specs.Data.{Data}
use Rattle.serde_json.specs.Find.{get}
use Rattle.wesl_json_form.specs.Place.{field}
use Rattle.wesl_json_form.specs.Pointer.{key}
use Rattle.wesl_json_form.specs.Reading.{label_in, word_in}
use Rattle.wesl_json_form.specs.Schema.{Row, SpelledLabel, Words, chosen, leaf, one_of}
use Rattle.wesl_json_read.specs.Faults.{IsAtRoot, LocatesRow, LocatesText}
use Rattle.wesl_json_read.specs.Forms.{word_at}
use Rattle.wesl_json_read.specs.Noted.{IsThere, IsTold, Lacks, Never, Notes}
use Rattle.wesl_json_read.specs.NotedNodes.{NotesOperator}
use Rattle.wesl_json_read.specs.declared.reader.Reader.{Reader}
use Rattle.wesl_json_read.proofs.Noting.{unchanged, weaker, wrong_at}
use Rattle.wesl_json_read.proofs.Places.{look_field, root, row-text, text-lacks, text-under}

pub operator_is : (ws : Words) (d v : Data) {l : SpelledLabel} {r s : Reader} → get (codes "op") d ≡ Some v → word_in ws v ≡ Some l → r ≡ s → NotesOperator ws d l s r
operator_is ws d v {l} {r} {s} found is same =
    subst (λ z. NotesOperator ws d l s z) (sym same) (unchanged {P = λ _ old new. (new ≡ old) × (word_at ws (codes "op") d ≡ Some l)} {T = λ _. LocatesText (word_in ws) (codes "op") d} (λ a. (refl, ap (option_and_then (word_in ws)) found ∙ is)))

pub no_operator : (ws : Words) (d v : Data) {l : SpelledLabel} {r s m e : Reader} → IsThere s (codes "op") d v → word_in ws v ≡ None → r ≡ s → Notes Never (λ _. IsAtRoot) r m → IsTold (key (codes "op")) m e → NotesOperator ws d l s e
no_operator ws d v there none same wrong told =
    wrong_at there.clear same wrong told (λ i o at_root under. text-under (word_in ws) (codes "op") d v i o there.found (root (λ place. (place ≡ []) × (word_in ws v ≡ None)) i at_root (refl, none)) under)

pub operator_lacks : (ws : Words) (d : Data) {l : SpelledLabel} {s e : Reader} → Notes Never (λ _. Lacks (codes "op") d) s e → NotesOperator ws d l s e
operator_lacks ws d {l} n = weaker {Q = λ _ old new. (new ≡ old) × (word_at ws (codes "op") d ≡ Some l)} (λ a b never. absurd never) (λ x h. text-lacks (word_in ws) (codes "op") d x h.1 h.0) n

-- the operator as the head of an object
pub operator_head : (whole : Bool → Row) (ws : Words) (d : Data) {l : SpelledLabel} {s e : Reader} → look_field (codes "op") (whole s.spans) d ≡ Some (field (codes "op") true (leaf (one_of ws))) → NotesOperator ws d l s e → Notes (λ _ a b. (b ≡ a) × (label_in (chosen (codes "op") ws) d ≡ Some l)) (λ spans. LocatesRow spans (whole spans) d) s e
operator_head whole ws d {l} {s} there n = weaker {Q = λ _ a b. (b ≡ a) × (label_in (chosen (codes "op") ws) d ≡ Some l)} (λ a b x. x) (λ x h. row-text s.spans (whole s.spans) (word_in ws) (codes "op") (one_of ws) d x there (λ v none. none) h) n
