-- What an opened packed form means.
use Rattle.syntax.specs.Meaning.{Meaning}
use Rattle.forms.specs.Tables.{table_meaning}
use Rattle.forms.specs.declared.packed.PackedSource.{PackedSource}

abbrev pub meaning_of : PackedSource → Meaning
meaning_of source = table_meaning source.tables source.bytes.now
