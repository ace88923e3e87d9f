-- The line of a refusal is one of the lines that the bytes may have.
use Rattle.std.proofs.Common.{◌≡◌, ℕ, List, Bool, true, false, refl, ap, ◌∙◌, subst, inl, inr}
use Rattle.wesl_tree_names.specs.Path.{Text}
use Rattle.wesl_tree_names.specs.declared.errors.Error as error
use Rattle.wesl_program.specs.Fault.{Fault, fault_of}
use Rattle.wesl_program.specs.Line.{AsksForPlaces, IsFaultLine, IsRefusal, TellsFault, fault_line, line_of, memory, told_value}
use Rattle.wesl_program.specs.Places.{IsPlaceOf, MayStand, Where, has_home, has_span, nowhere}

-- a fault that has no module and no place tells none
none-place : (f : Fault) (p : Where) → has_home f ≡ false → has_span f ≡ false → IsPlaceOf f p → p ≡ nowhere
none-place f p no_home no_span (home, span) =
    let there : record { home = p.home; span = p.span } ≡ nowhere = rw (home no_home, span no_span) refl in
    there

-- want of memory tells no place
memory-nowhere : (is_placed : Bool) (p : Where) → MayStand is_placed memory p → p ≡ nowhere
memory-nowhere is_placed p (inl none) = none
memory-nowhere is_placed p (inr (placed, of)) = none-place memory p refl refl of

memory-line : (is_placed : Bool) (f : Fault) (p : Where) (line : Text) → f ≡ memory → MayStand is_placed f p → line ≡ line_of (told_value f p) → line ≡ fault_line memory
memory-line is_placed f p line is stands told =
    let none : p ≡ nowhere = memory-nowhere is_placed p (subst (λ g. MayStand is_placed g p) is stands) in
    told ∙ ap (λ g. line_of (told_value g p)) is ∙ ap (λ q. line_of (told_value memory q)) none

pub fault-line-told : (bytes : List ℕ) (e : error.Error) (is_placed : Bool) (line : Text) → IsRefusal bytes e → (is_placed ≡ true → AsksForPlaces bytes) → TellsFault is_placed (fault_of e) line → IsFaultLine bytes line
fault-line-told bytes e is_placed line may asks (inl memory) = inl memory
fault-line-told bytes e is_placed line (inl is) asks (inr (p, stands, told)) = inl (memory-line is_placed (fault_of e) p line is stands told)
fault-line-told bytes e is_placed line (inr may) asks (inr (p, inl none, told)) = inr (fault_of e, p, may, inl none, told)
fault-line-told bytes e is_placed line (inr may) asks (inr (p, inr (placed, of), told)) = inr (fault_of e, p, may, inr (asks placed, of), told)
