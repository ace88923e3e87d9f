use Rattle.std.proofs.Common.{refl, sym, subst}
use Rattle.wesl_scope_occurrences.specs.Views.{here_view, standing_view}
use Rattle.wesl_scope_occurrences.specs.declared.occurrence.Standing.{Standing}
use Rattle.wesl_scope_occurrences.specs.declared.occurrence.Standing.TheVariants as standings
use Rattle.wesl_scope_meanings.specs.Reads.{NotesName}
use Rattle.wesl_scope_meanings.proofs.Reading.{notes_module_name, notes_parameter, notes_nothing}
use Rattle.wesl_scope_meanings.proofs.reader.Reader.note.Goals as goal

pub returns-in-ModuleName : goal.returns-in-ModuleName
returns-in-ModuleName c =
    subst (λ (s : Standing). NotesName c.args.self.now c.make_known.new.self (here_view c.args.here.now) (standing_view s) c.args.name) (sym c.in-ModuleName.is) (notes_module_name c.args.self.now c.make_known.new.self (here_view c.args.here.now) c.args.name c.make_known.ensures)

pub returns-in-Parameter : goal.returns-in-Parameter
returns-in-Parameter c =
    subst (λ (s : Standing). NotesName c.args.self.now c.make_visible.new.self (here_view c.args.here.now) (standing_view s) c.args.name) (sym c.in-Parameter.is) (notes_parameter c.args.self.now c.make_visible.new.self (here_view c.args.here.now) c.args.name c.make_visible.ensures)

pub returns-in-Local : goal.returns-in-Local
returns-in-Local c =
    subst (λ (s : Standing). NotesName c.args.self.now c.args.self.now (here_view c.args.here.now) (standing_view s) c.args.name) (sym c.in-Local.is) (notes_nothing c.args.self.now (here_view c.args.here.now) (standing_view (standings.Local c.in-Local.end)) c.args.name (λ b x s. refl) (λ x known n. refl))

pub returns-in-Reference : goal.returns-in-Reference
returns-in-Reference c =
    subst (λ (s : Standing). NotesName c.args.self.now c.args.self.now (here_view c.args.here.now) (standing_view s) c.args.name) (sym c.in-Reference.is) (notes_nothing c.args.self.now (here_view c.args.here.now) (standing_view (standings.Reference c.in-Reference.field-0)) c.args.name (λ b x s. refl) (λ x known n. refl))

pub returns-in-Word : goal.returns-in-Word
returns-in-Word c =
    subst (λ (s : Standing). NotesName c.args.self.now c.args.self.now (here_view c.args.here.now) (standing_view s) c.args.name) (sym c.in-Word.is) (notes_nothing c.args.self.now (here_view c.args.here.now) (standing_view standings.Word) c.args.name (λ b x s. refl) (λ x known n. refl))
