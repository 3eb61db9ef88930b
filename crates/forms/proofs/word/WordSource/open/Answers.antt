use Rattle.std.proofs.Common.{sym, refl}
use Rattle.std.proofs.lemmas.Result.{err_from_is_err_and}
use Rattle.forms.proofs.Opened.{unlawful, law-read}
use Rattle.forms.proofs.WordExact.{word_exact, refuses_bad, word_whole, word_within, word_ruled, word_opened}
use Rattle.forms.proofs.word.WordSource.open.Goals as goal

pub returns-in_err-read_words : goal.returns-in_err-read_words
returns-in_err-read_words c =
    let p = err_from_is_err_and c.from_residual.result c.from_residual.ensures.1 in
    rw (p.1, p.2) (record { answers = refuses_bad c.args.words.now c.args.bytes.now _ c.in_err-read_words.ensures; keeps = refl })

pub returns-then-not-is_lawful : goal.returns-then-not-is_lawful
returns-then-not-is_lawful c =
    let bytes = c.args.bytes.now in
    record { answers = unlawful (word_exact c.args.words.now bytes) bytes c.read_words.new.tables c.in_ok-read_words.ensures (sym c.if-not-is_lawful.ensures); keeps = refl }

pub invariant_of-self : goal.invariant_of-self
invariant_of-self c =
    let words = c.args.words.now in
    let bytes = c.args.bytes.now in
    let read = c.in_ok-read_words.ensures in
    let law = law-read (word_exact words bytes) bytes c.read_words.new.tables read (sym c.if-not-is_lawful.ensures) in
    record {
      whole = word_whole words bytes read.meaning read.form;
      within = word_within words bytes read.meaning read.form;
      ruled = word_ruled words bytes read.meaning read.form law;
    }

pub returns : goal.returns
returns c =
    let words = c.args.words.now in
    let bytes = c.args.bytes.now in
    let read = c.in_ok-read_words.ensures in
    let law = law-read (word_exact words bytes) bytes c.read_words.new.tables read (sym c.if-not-is_lawful.ensures) in
    record { answers = word_opened words bytes read.meaning read.form law; keeps = tt }
