-- Texts that are written one after another.
use Rattle.std.proofs.Common.{◌≡◌, ◌++◌, ap, ◌∙◌, append_assoc, string_bytes}
use Rattle.wesl_tree_names.specs.Path.{Text}
use Rattle.wesl_mangle_forms.specs.Written.{AddsText, Says}
use Rattle.wesl_mangle_forms.specs.declared.writer.Writer.{Writer}

-- one text after another
pub then : {a b c : Writer} {s t : Text} → AddsText a b s → AddsText b c t → AddsText a c (s ++ t)
then {a} {b} {c} {s} {t} first second = record {
  added = λ k. second.added k ∙ ap (λ (u : Text). u ++ t) (first.added (second.noted k)) ∙ append_assoc (string_bytes a.text) s t;
  noted = λ k. first.noted (second.noted k);
}

-- the same text in other words
pub worded : {a b : Writer} {s t : Text} → s ≡ t → AddsText a b s → AddsText a b t
worded {a} {b} e adds = record { added = λ k. adds.added k ∙ ap (λ (u : Text). string_bytes a.text ++ u) e; noted = adds.noted }

-- what was written, and one text more
pub more : {a b : Writer} {s t : Text} → Says a s → AddsText a b t → Says b (s ++ t)
more {t = t} says adds = record { said = λ k. adds.added k ∙ ap (λ (u : Text). u ++ t) (says.said (adds.noted k)) }

pub saying : {w : Writer} {s t : Text} → s ≡ t → Says w s → Says w t
saying e says = record { said = λ k. says.said k ∙ e }
