-- What an opened word form means.
use Rattle.syntax.specs.Meaning.{Meaning}
use Rattle.forms.specs.Words.{word_meaning}
use Rattle.forms.specs.declared.word.WordSource.{WordSource}

abbrev pub meaning_of : WordSource → Meaning
meaning_of source = word_meaning source.words.now source.bytes.now
