use Rattle.std.proofs.Common.{length, sym, ◌∙◌, ⊎_elim, arith}
use Rattle.forms.proofs.Texts.{within-front}
use Rattle.forms.proofs.Judging.{no_nodes, many_nodes, many_texts, bad-texts, good_texts}
use Rattle.forms.proofs.tables.Tables.is_lawful.Goals as goal

pub invariant_of-are_lawful : goal.invariant_of-are_lawful
invariant_of-are_lawful c =
    let tables = c.args.self.now in
    record { within = within-front tables.texts tables.counts.texts (length c.args.bytes.now) (omega (arith, tables.room)) (c.requires c.if-texts-gt-MAX_TEXTS.false) }

pub returns-then-nodes-eq0 : goal.returns-then-nodes-eq0
returns-then-nodes-eq0 c =
    let bytes = c.args.bytes.now in
    let tables = c.args.self.now in
    sym (⊎_elim (λ z. no_nodes bytes tables z) (⊎_elim (λ p. many_nodes bytes tables p.1) (λ p. many_texts bytes tables p.2)) c.then-nodes-eq0.either)

pub returns-then-are_lawful : goal.returns-then-are_lawful
returns-then-are_lawful c =
    c.is_file.ensures ∙ sym (good_texts c.args.bytes.now c.args.self.now (omega (arith, c.if-nodes-eq0.false)) c.if-nodes-gt-MAX_NODES.false c.if-texts-gt-MAX_TEXTS.false (sym c.if-are_lawful.ensures))

pub returns-else-are_lawful : goal.returns-else-are_lawful
returns-else-are_lawful c = c.if-are_lawful.false ∙ sym (bad-texts c.args.bytes.now c.args.self.now (sym c.if-are_lawful.ensures))
