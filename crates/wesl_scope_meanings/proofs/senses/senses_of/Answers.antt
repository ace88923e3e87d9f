use Rattle.std.proofs.Common.{refl, subst}
use Rattle.wesl_tree.specs.Translation.{unit_view}
use Rattle.wesl_scope_meanings.specs.Reads.{HasMemory}
use Rattle.wesl_scope_meanings.specs.Starts.{IsUnread}
use Rattle.wesl_scope_meanings.proofs.Read.{manners_read, names_read, keys_read, starts_read, numbers_read, nested_read, blocks_read}
use Rattle.wesl_scope_meanings.proofs.senses.senses_of.Goals as goal

pub returns : goal.returns
returns c =
    let v = unit_view c.args.unit.now in
    let first = c.in_ok-reader.reader in
    let w = c.in_ok-walked.walked in
    let unread = subst (λ x. IsUnread x first) c.names.ensures.names c.in_ok-reader.ensures in
    let kept : HasMemory w.handler = record { senses = c.if-reader.false; binders = c.if-reader-2.false } in
    record {
      manners = manners_read v first w.handler unread c.in_ok-walked.ensures.told kept c.in_ok-walked.ensures.named;
      names = names_read v first w.handler unread c.in_ok-walked.ensures.told kept c.in_ok-walked.ensures.named;
      keys = keys_read v first w.handler unread c.in_ok-walked.ensures.told kept c.in_ok-walked.ensures.named w.outer.items c.in_ok-walked.ensures.outer _ c.in_ok-walked.ensures.paths (c.law_of_open_binders.ensures.meanings c.args.unit.now);
      starts = starts_read v first w.handler unread c.in_ok-walked.ensures.told kept c.in_ok-walked.ensures.named refl;
      named = numbers_read v first w.handler unread c.in_ok-walked.ensures.told kept c.in_ok-walked.ensures.named;
      below = blocks_read v first w.handler unread c.in_ok-walked.ensures.told kept c.in_ok-walked.ensures.named w.outer.items c.in_ok-walked.ensures.outer _ c.in_ok-walked.ensures.paths (c.law_of_open_binders.ensures.meanings c.args.unit.now);
      nested = nested_read v first w.handler unread c.in_ok-walked.ensures.told kept c.in_ok-walked.ensures.named w.outer.items c.in_ok-walked.ensures.outer;
    }
