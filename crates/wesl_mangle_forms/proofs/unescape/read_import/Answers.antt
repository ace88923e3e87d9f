use Rattle.std.proofs.Common.{◌≡◌, ◌∙◌, sym, ap, ℕ, Some, List, drop, map, option_map, string_bytes, arith}
use Rattle.std.proofs.lemmas.List.{length-map}
use Rattle.std.specs.Str.Parse.{digits_value}
use Rattle.wesl_tree_names.specs.Path.{Text}
use Rattle.wesl_mangle_forms.specs.Escape.{from_parts, read_names}
use Rattle.wesl_tree_base.specs.Borrowed.{texts}
use Rattle.wesl_tree_syntax.specs.View.{texts_of}
use Rattle.wesl_mangle_forms.specs.Views.{names_before}
use Rattle.wesl_mangle_forms.proofs.Places.{import-none, import-read, join-parts}
use Rattle.wesl_mangle_forms.proofs.unescape.read_import.Goals as goal

pub returns-in_default-number_up_to-clause-read : goal.returns-in_default-number_up_to-clause-read
returns-in_default-number_up_to-clause-read c =
    let rest = c.in-Some.rest.now in
    let m = length-map rest (λ x. x.now) in
    sym (import-none c.in-Some.first.now.now (texts rest) (texts c.args.pieces.now) (ap texts c.in-Some.ensures.cases.0) (λ n. omega (arith, m, c.in_default-number_up_to.ensures n)))

pub returns-clause-read : goal.returns-clause-read
returns-clause-read c =
    let q = c.in-Some.first.now.now in
    let ps : List Text = texts c.in-Some.rest.now in
    let r : read_names (digits_value 10 q) ps ≡ Some (texts_of c.in-Some-2.parts, drop c.in-Some-2.taken ps) =
    ap (λ (k : ℕ). read_names k ps) (sym c.in-Some-number_up_to.ensures.1) ∙ sym c.in_ok-parts.ensures.read ∙ ap (option_map (names_before ps)) c.in-Some-2.is in
    let m : string_bytes c.in_ok-name.name ≡ from_parts (texts_of c.in-Some-2.parts) =
    c.in_ok-name.ensures.ok ∙ join-parts string_bytes c.as_slice.result.now ∙ ap (λ xs. from_parts (map string_bytes xs)) c.as_slice.ensures.value in
    sym (import-read q ps (texts c.args.pieces.now) c.in-Some-2.taken (texts_of c.in-Some-2.parts) (string_bytes c.in_ok-name.name) (ap texts c.in-Some.ensures.cases.0) c.in-Some-number_up_to.ensures.0 r m)
