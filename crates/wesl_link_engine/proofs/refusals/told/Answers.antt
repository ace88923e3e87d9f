use Rattle.std.proofs.Common.{sym, subst, refl}
use Rattle.wesl_tree_names.specs.declared.errors.ResolveError as resolve_error
use Rattle.wesl_tree_names.specs.declared.errors.ImportError as import_error
use Rattle.wesl_tree_names.specs.declared.errors.Error as error
use Rattle.wesl_link_reach.specs.declared.error.LinkError.{LinkError}
use Rattle.wesl_link_tables.specs.NumbersView.{numbering}
use Rattle.wesl_link_engine.specs.Refusal.{TellsLinkError}
use Rattle.wesl_link_engine.proofs.refusals.told.Goals as goal

pub returns-in_ok-name-in-DuplicateSymbol : goal.returns-in_ok-name-in-DuplicateSymbol
returns-in_ok-name-in-DuplicateSymbol c =
    let e = error.Import (import_error.DuplicateSymbol c.in_ok-name-in-DuplicateSymbol.name) in
    subst (λ (f : LinkError resolve_error.ResolveError). TellsLinkError (numbering c.args.numbers.now) f e) (sym c.in-DuplicateSymbol.is)
    (c.in_ok-name-in-DuplicateSymbol.name, refl, c.in_ok-name-in-DuplicateSymbol.ensures)

pub returns-in_ok-name-in-MissingDecl : goal.returns-in_ok-name-in-MissingDecl
returns-in_ok-name-in-MissingDecl c =
    let e = error.Import (import_error.MissingDecl c.in_ok-path-in-MissingDecl.path c.in_ok-name-in-MissingDecl.name) in
    subst (λ (f : LinkError resolve_error.ResolveError). TellsLinkError (numbering c.args.numbers.now) f e) (sym c.in-MissingDecl.is)
    (c.in_ok-path-in-MissingDecl.path, c.in_ok-name-in-MissingDecl.name, refl, c.in_ok-path-in-MissingDecl.ensures, c.in_ok-name-in-MissingDecl.ensures)

pub returns-in_ok-path-in-Private : goal.returns-in_ok-path-in-Private
returns-in_ok-path-in-Private c =
    let e = error.Import (import_error.Private c.in_ok-name-in-Private.name c.in_ok-path-in-Private.path) in
    subst (λ (f : LinkError resolve_error.ResolveError). TellsLinkError (numbering c.args.numbers.now) f e) (sym c.in-Private.is)
    (c.in_ok-name-in-Private.name, c.in_ok-path-in-Private.path, refl, c.in_ok-name-in-Private.ensures, c.in_ok-path-in-Private.ensures)

pub returns-in_ok-name-in-AmbiguousSymbol : goal.returns-in_ok-name-in-AmbiguousSymbol
returns-in_ok-name-in-AmbiguousSymbol c =
    let e = error.Import (import_error.AmbiguousSymbol c.in_ok-name-in-AmbiguousSymbol.name) in
    subst (λ (f : LinkError resolve_error.ResolveError). TellsLinkError (numbering c.args.numbers.now) f e) (sym c.in-AmbiguousSymbol.is)
    (c.in_ok-name-in-AmbiguousSymbol.name, refl, c.in_ok-name-in-AmbiguousSymbol.ensures)

pub returns-in_ok-path-in-TooManyFlags : goal.returns-in_ok-path-in-TooManyFlags
returns-in_ok-path-in-TooManyFlags c =
    let e = error.Import (import_error.TooManyFlags c.in_ok-path-in-TooManyFlags.path) in
    subst (λ (f : LinkError resolve_error.ResolveError). TellsLinkError (numbering c.args.numbers.now) f e) (sym c.in-TooManyFlags.is)
    (c.in_ok-path-in-TooManyFlags.path, refl, c.in_ok-path-in-TooManyFlags.ensures)
