-- The texts of the program's own pieces of markup.
use Rattle.std.specs.Prelude.{ℕ, List, codes}
use Rattle.explain_page.specs.declared.own.Own.{Own}
use Rattle.explain_page.specs.declared.own.Own.TheVariants as own
use Rattle.explain_page.specs.declared.own.attribute.Attribute.{Attribute}
use Rattle.explain_page.specs.declared.own.attribute.Attribute.TheVariants as attribute
use Rattle.explain_page.specs.declared.own.class.Class.{Class}
use Rattle.explain_page.specs.declared.own.class.Class.TheVariants as class
use Rattle.explain_page.specs.declared.own.frame.Frame.{Frame}
use Rattle.explain_page.specs.declared.own.frame.Frame.TheVariants as frame
use Rattle.explain_page.specs.declared.own.frame.TheConstants.{NO_PICTURE, FIGURE, PATTERNS, LEGEND}
use Rattle.explain_page.specs.declared.own.table.Table.{Table}
use Rattle.explain_page.specs.declared.own.table.Table.TheVariants as table
use Rattle.explain_page.specs.declared.own.table.TheConstants.{START as TABLE_START}
use Rattle.explain_page.specs.declared.own.tag.Tag.{Tag}
use Rattle.explain_page.specs.declared.own.tag.Tag.TheVariants as tag
use Rattle.explain_page.specs.declared.own.words.Words.{Words}
use Rattle.explain_page.specs.declared.own.words.Words.TheVariants as words

abbrev pub frame_text : Frame → List ℕ
frame_text frame.NoPicture = NO_PICTURE.now
frame_text frame.Figure = FIGURE.now
frame_text frame.FigureTitle = codes "\">\n<title id=\"picture-title\">"
frame_text frame.Patterns = PATTERNS.now
frame_text frame.Legend = LEGEND.now
frame_text frame.Fold = codes "<details>\n<summary>"
frame_text frame.FoldTitled = codes "</summary>\n<pre>"
frame_text frame.FoldEnd = codes "</pre>\n</details>\n"
frame_text frame.Report = codes "<h2 id=\"report\">Report</h2>\n<pre class=\"report\">"
frame_text frame.End = codes "</pre>\n</main>\n</body>\n</html>\n"

abbrev pub tag_text : Tag → List ℕ
tag_text tag.Rectangle = codes "<rect class=\""
tag_text tag.Disc = codes "<circle class=\""
tag_text tag.Words = codes "<text class=\""
tag_text tag.WordsStart = codes ">"
tag_text tag.WordsEnd = codes "</text>\n"
tag_text tag.Line = codes "<polyline class=\"order\" points=\""
tag_text tag.Comma = codes ","
tag_text tag.Space = codes " "
tag_text tag.Quote = codes "\""
tag_text tag.Close = codes "/>\n"
tag_text tag.Group = codes "<g><title>"
tag_text tag.Title = codes "<title>"
tag_text tag.GroupTitled = codes "</title>"
tag_text tag.GroupEnd = codes "</g>\n"
tag_text tag.Bar = codes "<a id=\"b"
tag_text tag.BarRow = codes "\" href=\"#s"
tag_text tag.LinkStart = codes "\">"
tag_text tag.LineStart = codes "<span id=\"r"
tag_text tag.LineEnd = codes "</span>"
tag_text tag.ToBar = codes "<a href=\"#b"
tag_text tag.ToRow = codes "<a href=\"#s"
tag_text tag.LinkEnd = codes "</a>"

abbrev pub attribute_text : Attribute → List ℕ
attribute_text attribute.X = codes " x=\""
attribute_text attribute.Y = codes " y=\""
attribute_text attribute.Width = codes " width=\""
attribute_text attribute.Height = codes " height=\""
attribute_text attribute.CenterX = codes " cx=\""
attribute_text attribute.CenterY = codes " cy=\""
attribute_text attribute.Radius = codes " r=\""
attribute_text attribute.ViewBox = codes " viewBox=\"0 0 "

abbrev pub class_text : Class → List ℕ
class_text class.Lane = codes "lane"
class_text class.OddLane = codes "lane odd"
class_text class.Cpu = codes "cpu"
class_text class.Small = codes "small"
class_text class.Strip = codes "strip"
class_text class.Shown = codes "shown"
class_text class.FailingTick = codes "tick failing"
class_text class.CauseTick = codes "tick cause"
class_text class.Bar = codes "bar"
class_text class.FailingBar = codes "bar failing"
class_text class.CauseBar = codes "bar cause"
class_text class.Name = codes "name"
class_text class.NameAtEnd = codes "name end"
class_text class.Mark = codes "mark"
class_text class.FailingMark = codes "mark failing"
class_text class.Step = codes "step"
class_text class.FailingStep = codes "step failing"
class_text class.Hit = codes "hit"
class_text class.Gap = codes "gap"

abbrev pub words_text : Words → List ℕ
words_text words.Cpu = codes "CPU "
words_text words.Line = codes "line"
words_text words.CallsOf = codes "The calls of "
words_text words.CpusOnLines = codes " CPUs on lines "
words_text words.To = codes " to "
words_text words.Of = codes " of "
words_text words.OfTheHistory = codes " of the history"
words_text words.ShownLines = codes "shown: lines "
words_text words.AndLines = codes " and "

abbrev pub table_text : Table → List ℕ
table_text table.Start = TABLE_START.now
table_text table.Row = codes "<tr id=\"s"
table_text table.FailingRow = codes "<tr class=\"failing\" id=\"s"
table_text table.CauseRow = codes "<tr class=\"cause\" id=\"s"
table_text table.Number = codes "\"><th scope=\"row\">"
table_text table.Call = codes "</th><td><pre>"
table_text table.RowEnd = codes "</pre></td></tr>\n"
table_text table.InReport = codes "</pre><a href=\"#r"
table_text table.InReportEnd = codes "\">in the report</a></td></tr>\n"
table_text table.End = codes "</tbody>\n</table>\n</details>\n"

unfoldable pub own_text : Own → List ℕ
own_text (own.Frame piece) = frame_text piece
own_text (own.Tag piece) = tag_text piece
own_text (own.Attribute piece) = attribute_text piece
own_text (own.Class piece) = class_text piece
own_text (own.Words piece) = words_text piece
own_text (own.Table piece) = table_text piece
