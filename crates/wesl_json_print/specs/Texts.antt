-- What a sink that writes a text has written.
use Rattle.std.specs.Prelude.{◌≡◌, List, [], ◌∷◌, ◌++◌, false}
use Rattle.std.proofs.Common.{append_assoc, append-nil, refl, sym, ap, ◌∙◌}
use Rattle.json.specs.Token.{Token, begin_array, begin_object, end_array, end_object, key}
use Rattle.json.specs.Tree.{json_tokens}
use Rattle.serde_json.specs.Written.{outline}
use Rattle.wesl_json_print_nodes.specs.Events.{Event}
use Rattle.wesl_json_print_nodes.specs.Events as told
use Rattle.wesl_json_print.specs.declared.text.TextSink.{TextSink}

-- the tokens of a text that stand for an event
abbrev pub token_of : Event → List Token
token_of told.begins = begin_object ∷ []
token_of told.ends = end_object ∷ []
token_of told.begins_list = begin_array ∷ []
token_of told.ends_list = end_array ∷ []
token_of (told.key k) = key k ∷ []
token_of (told.gives d) = json_tokens (outline d)

-- the tokens of events one after another
abbrev pub tokens_of : List Event → List Token
tokens_of [] = []
tokens_of (e ∷ es) = token_of e ++ tokens_of es

-- Unless memory was wanting by then: the tokens are those before and those of the events, behind the same text, and memory was not wanting before either.
pub record WritesEvents (es : List Event) (old new : TextSink) : Type 0 where
  pub tokens : new.is_refused ≡ false → new.out.tokens ≡ old.out.tokens ++ tokens_of es
  pub before : new.is_refused ≡ false → new.out.before ≡ old.out.before
  pub noted : new.is_refused ≡ false → old.is_refused ≡ false

pub tokens_more : (es fs : List Event) → tokens_of (es ++ fs) ≡ tokens_of es ++ tokens_of fs
tokens_more [] fs = refl
tokens_more (e ∷ es) fs = ap (λ ts. token_of e ++ ts) (tokens_more es fs) ∙ sym (append_assoc (token_of e) (tokens_of es) (tokens_of fs))

pub writes_none : (a : TextSink) → WritesEvents [] a a
writes_none a = record { tokens = λ kept. sym (append-nil a.out.tokens); before = λ kept. refl; noted = λ kept. kept }

pub writes_more : (es fs : List Event) (a b c : TextSink) → WritesEvents es a b → WritesEvents fs b c → WritesEvents (es ++ fs) a c
writes_more es fs a b c h k = record {
  tokens = λ kept. k.tokens kept ∙ ap (λ ts. ts ++ tokens_of fs) (h.tokens (k.noted kept)) ∙ append_assoc a.out.tokens (tokens_of es) (tokens_of fs) ∙ ap (λ ts. a.out.tokens ++ ts) (sym (tokens_more es fs));
  before = λ kept. k.before kept ∙ h.before (k.noted kept);
  noted = λ kept. h.noted (k.noted kept);
}
