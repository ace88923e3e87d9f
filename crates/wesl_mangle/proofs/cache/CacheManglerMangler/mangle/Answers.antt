use Rattle.std.proofs.Common.{◌≡◌, ◌∙◌, string_bytes}
use Rattle.wesl_tree_names.specs.Path.{Text, path_view}
use Rattle.wesl_mangle_forms.specs.Items.{item_view}
use Rattle.wesl_mangle_forms.proofs.Writing.{IfOk-to}
use Rattle.wesl_mangle.specs.Shown.{shown}
use Rattle.wesl_mangle.proofs.Read.{reads-written}
use Rattle.wesl_mangle.proofs.cache.CacheManglerMangler.mangle.Goals as goal

pub returns-clause-named : goal.returns-clause-named
returns-clause-named g c = c.in_ok-mangled.ensures.named

pub returns-clause-same : goal.returns-clause-same
returns-clause-same g c = c.in_ok-mangled.ensures.same

pub returns-clause-inner_written : goal.returns-clause-inner_written
returns-clause-inner_written g c = c.in_ok-mangled.ensures.written

pub returns-clause-written : goal.returns-clause-written
returns-clause-written g c =
    let path = path_view c.args.path.now in
    let item = c.args.item.now in
    let name : Text = g.M.Mangler.name_of c.args.self.now.mangler path item in
    c.in_ok-record.ensures.written name (path, item)
    (IfOk-to _ (λ e. (string_bytes e.0 ≡ name) × (item_view e.1 ≡ (path, item))) (λ e k. (k.0 ∙ c.as_str.ensures.value ∙ c.in_ok-mangled.ensures.named, k.1)) c.entry.result c.entry.ensures.copied)

pub returns-clause-reads : goal.returns-clause-reads
returns-clause-reads g c =
    let path = path_view c.args.path.now in
    let item = c.args.item.now in
    reads-written (g.M.Mangler.name_of c.args.self.now.mangler path item) (path, item) (shown c.args.self.now.items) (shown c.record.new.items)
    (g.M.Mangler.item_of c.args.self.now.mangler) (g.M.Mangler.item_of c.mangle.new.self) c.mangle.ensures.reads (returns-clause-written g c)
