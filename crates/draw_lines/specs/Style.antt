-- The colours and letters of a picture, and its legend
use Rattle.std.specs.Prelude.{ℕ, List, [], ◌∷◌, codes}
use Rattle.std.specs.List.{concat}

-- a message is red, and its acknowledgement green; a span of danger is hatched in red; a call has the colour of its request
abbrev pub style_text : List ℕ
style_text = concat (codes "<style>\n"
    ∷ codes "svg{background:#fff;font-family:monospace}\n"
    ∷ codes "text{fill:#222;font-size:10px}.Wide text{font-size:11px}.Narrow text,.Flat text{font-size:9px}\n"
    ∷ codes "text.name{font-weight:bold}text.flat{font-size:9px}text.wait{fill:#8a4b00;font-style:italic}\n"
    ∷ codes ".Wide text.wait{font-size:9px}text.fault{fill:#b0433b}\n"
    ∷ codes "text.name,text.what,text.reply,text.fault,text.flat,text.wait{paint-order:stroke;stroke:#fff;stroke-width:1.6px;stroke-opacity:.7}\n"
    ∷ codes "text.step,text.deed{text-anchor:middle}text.step{fill:#666}text.hid{display:none}\n"
    ∷ codes "text.core,text.head{font-weight:bold;font-size:11px}.Flat text.core{font-size:10px}\n"
    ∷ codes ".Flat text.step{font-size:7px}.Narrow text.what{font-size:8px}\n"
    ∷ codes "text.note{fill:#555;font-size:10px}\n"
    ∷ codes ".grid{stroke:#eee}.lane{stroke:#ccc}\n"
    ∷ codes ".told{stroke:#b0433b;stroke-width:1.6;marker-end:url(#told)}\n"
    ∷ codes ".back{stroke:#3b8f5a;stroke-width:1.4;stroke-dasharray:4 3;marker-end:url(#back)}\n"
    ∷ codes ".ask{fill:#b0433b}.answer{fill:#3b8f5a}\n"
    ∷ codes ".mmap,.munmap,.mprotect,.load,.store,.fetch{fill-opacity:.75}\n"
    ∷ codes ".mmap{fill:#d3e6e6;stroke:#3f7f7f}.munmap{fill:#f3d3d3;stroke:#b0433b}.mprotect{fill:#e6daf2;stroke:#8a5fb5}\n"
    ∷ codes ".load{fill:#d9efdf;stroke:#2f7d4c}.store{fill:#f6e3c4;stroke:#a8650f}.fetch{fill:#d5e4f4;stroke:#2f6fb0}\n"
    ∷ codes ".take{fill:#fff6d8;stroke:#a98}.spot{fill:#eee;stroke:#aaa}\n"
    ∷ codes ".danger{fill:url(#danger);stroke:#b0433b;stroke-dasharray:3 2}.stripe{fill:#e08a83}\n"
    ∷ codes ".none{fill:#ddd}.read{fill:#d9efdf}.write{fill:#f6e3c4}.exec{fill:#d5e4f4}.both{fill:#f3d3d3}\n"
    ∷ codes "@media (prefers-color-scheme:dark){\n"
    ∷ codes "svg{background:#16181c}text{fill:#ddd}text.step,text.note{fill:#aaa}text.wait{fill:#f0b36a}text.fault{fill:#ff9b92}\n"
    ∷ codes "text.name,text.what,text.reply,text.fault,text.flat,text.wait{stroke:#16181c}text.prot,text.deed{fill:#222}\n"
    ∷ codes ".grid{stroke:#25282d}.lane{stroke:#444}\n"
    ∷ codes ".told{stroke:#e0786f}.back{stroke:#6cc08a}.ask{fill:#e0786f}.answer{fill:#6cc08a}\n"
    ∷ codes ".mmap{fill:#234848}.munmap{fill:#5a2a2a}.mprotect{fill:#3f2f55}.load{fill:#1f4a30}.store{fill:#533a12}.fetch{fill:#1f3d5c}\n"
    ∷ codes ".take{fill:#d8c98a}.spot{fill:#999}.danger{stroke:#e0786f}.stripe{fill:#8a3c36}\n"
    ∷ codes ".none{fill:#999}.read{fill:#9cc7a8}.write{fill:#d3b883}.exec{fill:#9db8d3}.both{fill:#d09a9a}}\n"
    ∷ codes "</style>\n"
    ∷ codes "<defs>\n"
    ∷ codes "<pattern id=\"danger\" width=\"7\" height=\"7\" patternUnits=\"userSpaceOnUse\" patternTransform=\"rotate(45)\">\n"
    ∷ codes "<rect class=\"stripe\" width=\"2.6\" height=\"7\"/></pattern>\n"
    ∷ codes "<marker id=\"told\" markerWidth=\"7\" markerHeight=\"7\" refX=\"6\" refY=\"3\" orient=\"auto\">\n"
    ∷ codes "<path class=\"ask\" d=\"M0,0 L6,3 L0,6 z\"/></marker>\n"
    ∷ codes "<marker id=\"back\" markerWidth=\"7\" markerHeight=\"7\" refX=\"6\" refY=\"3\" orient=\"auto\">\n"
    ∷ codes "<path class=\"answer\" d=\"M0,0 L6,3 L0,6 z\"/></marker>\n"
    ∷ codes "</defs>\n" ∷ [])

-- what each colour of pages means, and what a core does with a message
abbrev pub legend_words : List ℕ
legend_words = concat (codes "<text class=\"note\" x=\"8\" y=\"10\">pages:</text>\n"
    ∷ codes "<rect class=\"none\" x=\"60\" width=\"14\" height=\"12\"/><text class=\"note\" x=\"79\" y=\"10\">no rights</text>\n"
    ∷ codes "<rect class=\"read\" x=\"150\" width=\"14\" height=\"12\"/><text class=\"note\" x=\"169\" y=\"10\">read</text>\n"
    ∷ codes "<rect class=\"write\" x=\"212\" width=\"14\" height=\"12\"/><text class=\"note\" x=\"231\" y=\"10\">write</text>\n"
    ∷ codes "<rect class=\"exec\" x=\"280\" width=\"14\" height=\"12\"/><text class=\"note\" x=\"299\" y=\"10\">execute</text>\n"
    ∷ codes "<rect class=\"both\" x=\"360\" width=\"14\" height=\"12\"/><text class=\"note\" x=\"379\" y=\"10\">write and execute</text>\n"
    ∷ codes "<text class=\"note\" x=\"8\" y=\"30\">cores:</text>\n"
    ∷ codes "<rect class=\"danger\" x=\"60\" y=\"20\" width=\"24\" height=\"12\"/>\n"
    ∷ codes "<text class=\"note\" x=\"89\" y=\"30\">told to drop translations, and may use them</text>\n"
    ∷ codes "<line class=\"told\" x1=\"370\" y1=\"26\" x2=\"394\" y2=\"26\"/>\n"
    ∷ codes "<text class=\"note\" x=\"399\" y=\"30\">message, first take</text>\n"
    ∷ codes "<line class=\"back\" x1=\"530\" y1=\"26\" x2=\"554\" y2=\"26\"/>\n"
    ∷ codes "<text class=\"note\" x=\"559\" y=\"30\">acknowledged, second take</text>\n" ∷ [])
