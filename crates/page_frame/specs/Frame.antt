-- What stands around the sections of the report: the start of the page with its title and its style, and its end. Assumes nothing.
use Rattle.std.specs.Prelude.{ℕ, Bool, true, false, cond, List, ◌++◌}
use Rattle.composing.specs.Text.{ascii, decimal}
use Rattle.titles.specs.Titles.{title_in}
use Rattle.parts.specs.Parts.{only}

-- the style after the year at the foot of a sheet: the page and its text; tables and their shades; plots; paper
unfoldable pub page_style : List ℕ
page_style =
    ascii "\";font:8px Arial,sans-serif}@bottom-right{content:counter(page) \" / \" counter(pages);font:8px Arial,sans-serif}}\n*{print-color-adjust:exact;-webkit-print-color-adjust:exact}\nbody{font:15px/1.45 Arial,Helvetica,sans-serif;max-width:1240px;margin:0 auto;padding:12px 16px;color:#111;background:#fff}\nh1{font-size:1.6em;line-height:1.2;margin:.3em 0;overflow-wrap:anywhere}\nh2{font-size:1.2em;margin:2em 0 .4em;border-bottom:2px solid #1b4f7a}\np{max-width:52em;margin:.4em 0}\ncode{font-size:.85em;overflow-wrap:anywhere}\n.p{display:flex;flex-wrap:wrap;gap:0 36px;align-items:flex-start}\n.t,figure{overflow-x:auto;max-width:100%;margin:.9em 0}\n.p figure{flex-grow:1}\n"

unfoldable pub table_style : List ℕ
table_style =
    ascii "table{border-collapse:collapse;font-size:clamp(12px,2000px/var(--n),14px);line-height:1.35;font-variant-numeric:tabular-nums}\ncaption,figcaption{text-align:left;font-size:13px;font-weight:700;padding-bottom:3px}\ncaption{white-space:nowrap}\nth,td{padding:.15em .45em;text-align:right;border-bottom:1px solid #e0e0e0}\ntd{white-space:nowrap}\nth{font-weight:400;color:#333}\nthead th{vertical-align:bottom;border-bottom:1px solid #111}\nth:first-child{text-align:left;position:sticky;left:0;background:#fff}\ntfoot{display:table-row-group}\ntfoot th,tfoot td{border-top:1px solid #111;font-weight:700}\n.k tbody tr:first-child td{font-size:clamp(14px,1.5vw,18px);font-weight:700}\ni{font-style:normal;margin-left:.2em}\n"

unfoldable pub shade_style : List ℕ
shade_style =
    ascii ".f{background:#e6ebf0}\n.s1{background:#eaf1f8}.s2{background:#d3e3f1}.s3{background:#b9d2e9}.s4{background:#9cbfdf}.s5{background:#7fabd5}\n.n1{background:#fdf1e6}.n2{background:#f9dfc8}.n3{background:#f3c9a3}.n4{background:#ebb07c}.n5{background:#e29a5a}\n.h1{background:#dcebf7}.h2{background:#b9d6ee}.h3{background:#92bde2}.h4{background:#6aa2d4}\n.l1{background:#fbeadb}.l2{background:#f5d2b3}.l3{background:#edb787}.l4{background:#e29a5a}\ntd.z{outline:2px solid #111;outline-offset:-2px}\n"

unfoldable pub plot_style : List ℕ
plot_style =
    ascii "svg{display:block;width:100%;height:auto;font:11px Arial,Helvetica,sans-serif}\nsvg path{stroke:#ccc;fill:none}\nsvg .z{stroke:#111}\ntext{text-anchor:end;fill:#333}\ntext.m{text-anchor:middle}\ntext.l{text-anchor:start}\n.a{fill:#1b4f7a;background:#1b4f7a;stroke:#1b4f7a}\n.b{fill:#f3c08c;background:#f3c08c;stroke:#6b3d0c}\nb.a,b.b{display:inline-block;width:.7em;height:.7em;margin-left:1em;border:1px solid #333}\n"

unfoldable pub paper_style : List ℕ
paper_style =
    ascii "@media print{\nbody{font-size:11px;line-height:1.35;padding:0;max-width:none}\np{max-width:72em}\nh2{margin:1.2em 0 .3em}\n.t,figure{overflow:visible;margin:.5em 0}\ntable{font-size:min(11px,1550px/var(--n));line-height:1.15}\nth,td{padding:.1em .45em}\nth:first-child{position:static}\ncaption,figcaption{font-size:10px}\n.k tbody tr:first-child td{font-size:14px}\nh2{break-after:avoid}\np+.t,p+.p{break-before:avoid}\nsection,p,.t,.p,figure{break-inside:avoid}\n}\n"

unfoldable pub style : List ℕ
style = page_style ++ (table_style ++ (shade_style ++ (plot_style ++ paper_style)))

-- what stands before the style: the title, and the foot of a sheet up to the words and the year that it ends with
unfoldable pub head_start : List ℕ → List ℕ → ℕ → List ℕ
head_start title words year =
    ascii "<!DOCTYPE html>\n<html lang=\"en\">\n<head>\n<meta charset=\"utf-8\">\n<meta name=\"viewport\" content=\"width=device-width,initial-scale=1\">\n<title>"
    ++ (title_in true title
    ++ (ascii "</title>\n<style>\n@page{size:A4 landscape;margin:11mm 10mm 14mm;@bottom-left{content:\"Doonamurk 1.0, " ++ (words ++ decimal year)))

unfoldable pub web_start : List ℕ → List ℕ → ℕ → List ℕ
web_start title words year = head_start title words year ++ (style ++ (ascii "</style>\n</head>\n<body>\n<h1>" ++ (title_in true title ++ ascii "</h1>\n")))

-- the start of a page: on a page of text the title alone
unfoldable pub text_start : List ℕ → List ℕ
text_start title = title_in false title ++ ascii "\n"

unfoldable pub start_with : Bool → List ℕ → List ℕ → ℕ → List ℕ
start_with html title words year = cond html (web_start title words year) (text_start title)

-- that of a record's page, with the valuation year
unfoldable pub page_start : Bool → List ℕ → ℕ → List ℕ
page_start html title year = start_with html title (ascii "valuation year ") year

-- and its end
unfoldable pub page_end : Bool → List ℕ
page_end html = only html (ascii "</body>\n</html>\n")
